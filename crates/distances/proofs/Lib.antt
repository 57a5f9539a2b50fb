-- The laws of chains and distances, and how they make the answers of the fewest and the quickest question exact without unfolding. A price is what links
-- weigh by their labels, 0 or more, or not at all; for the fewest question 1, for the quickest a wait, and a note has none (each-one, priced). A copy is a block in its place, and its
-- parts are the copies of its uses (shows/specs/Copies).
--
-- 0. The model's fewest is the length of a shortest chain, and a summary that of a shortest chain between joins.
pub mod Walks
pub mod Chains
pub mod Pigeonhole
pub mod Fewest
pub mod Places
-- 1. Locality (shows/proofs/Locality, Trails): the copies of a show are sound, a link of the whole with an end among a copy's numbers is a link of
-- that copy, and a path leads to a copy inside the show in which its own cue has the model's number.
-- 2. Contraction. A chain between cues of a block's copy is the block's own links and crossings of its uses from join to join; and back.
pub mod Contraction
pub mod Images
-- 3. Closure. Estimates that have fallen to their beginnings, are stable over links and lower summaries, and are attained tell the least of
-- beginning plus chain weight. So an estimate that is inf or more means that no chain exists.
pub mod Closure
-- 4. Least weights, whatever links weigh. An estimate that tells the least weight of a walk says it; a table that tells those between joins is exact for
-- each copy, and the estimates from a block's joins make it a table of one block more.
pub mod Lightest
pub mod Knowing
-- 5. Summaries. Estimates that begin at join i with 0 are the model's summary from join i; a table of such numbers is exact for each copy. A number
-- of 4,294,967,295 or more is the answer none, and a smaller one is that number (distance).
pub mod Summing
-- 6. Sums of waits. The model's quickest is the least weight of a walk over followed links that weigh their waits (priced), and none exactly where fewest is.
pub mod Quickest
-- 7. Up and down. Estimates that begin from a use's joins tell the way from s inside the copy above it; those that begin from the joins of the copy
-- above, and from s where it lies inside, tell the way from s in the whole. How code comes to such estimates: crate searches.
pub mod Detours
