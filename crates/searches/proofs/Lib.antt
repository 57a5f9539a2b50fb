-- One argument for every search. Whatever links weigh, 0 too, and from whatever number on an estimate says nothing:
-- 1. What estimates begin with, and rounds that lower them over the edges of links, of uses and of whole blocks, until one is quiet.
pub mod Lowering
pub mod Starts
pub mod Rounds
pub mod Lines
pub mod Edges
-- 2. Settled estimates are final: they tell the least weights (distances/proofs/Closure).
pub mod Settled
-- 3. From copy to copy, over rows: what the next copy begins with, what stands in the work area by blocks, what its estimates tell, all the way up and down.
pub mod Joins
pub mod Parts
pub mod Telling
pub mod Ways
pub mod Answering
