-- The laws of loading.
pub mod Checked
pub mod Files
pub mod DeskRows
pub mod DeskFiles
pub mod Outcomes
