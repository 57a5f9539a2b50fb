-- The laws of the built-in table in the code, and of what is asked of a file's own rows.
pub mod Rows
pub mod Own
