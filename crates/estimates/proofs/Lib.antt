-- Laws of lists of numbers.
pub mod Numbers
