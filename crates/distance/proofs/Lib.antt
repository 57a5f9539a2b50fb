-- Laws of the work area as it is filled, and of follow-ons as what is counted.
pub mod Summaries
pub mod Area
pub mod Counting
