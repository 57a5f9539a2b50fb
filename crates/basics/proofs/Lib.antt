-- Laws that know nothing of rows and blocks: choices, members, kept numbers, values in a text, numbers and triples that are printed.
pub mod Choices
pub mod Members
pub mod Every
pub mod Keeping
pub mod Digits
pub mod Printed
