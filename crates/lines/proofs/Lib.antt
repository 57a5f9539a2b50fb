-- Laws of lines at a place, which tie the code's definitions to those of crates/model.
pub mod Ends
pub mod LineScan
pub mod LineTexts
pub mod Names
pub mod FirstLines
pub mod Tables
