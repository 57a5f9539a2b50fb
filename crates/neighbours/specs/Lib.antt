-- The links that a question picks, records of marks, and what a table of them says.
pub mod Picks
pub mod Records
pub mod Near
