-- What the answers say, in the model's words.
pub mod Asked
