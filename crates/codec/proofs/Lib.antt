-- Laws that tie the code's definitions to those of crates/model.
pub mod Ends
pub mod Names
pub mod RowScan
pub mod FileScan
pub mod Sofar
pub mod Stores
pub mod DigitStores
pub mod Spills
pub mod RowStores
