-- How sums between joins are filled in and searched: laws that the proofs of the functions cite.
pub mod Sums
