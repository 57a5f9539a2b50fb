pub mod Cells
pub mod Faults
pub mod Numbers
