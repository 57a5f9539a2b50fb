-- Laws of what is printed, from the digits of a number up.
pub mod Numbers
pub mod Lines
pub mod Marks
pub mod Filling
pub mod Texts
pub mod Triples
