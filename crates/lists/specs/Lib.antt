-- What the lists are, and what each part of the code gives of them.
pub mod Pages
pub mod Walks
pub mod Joins
pub mod Answer
