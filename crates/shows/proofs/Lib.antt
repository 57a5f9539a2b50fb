-- The laws of shows, from the ground up.
pub mod AtBlock
-- rows and their checks
pub mod Passed
pub mod Tracks
pub mod Accepted
pub mod LastRow
pub mod RefusalPlaces
pub mod Outcomes
-- numbers, lists, the links that a chain may have
pub mod Numbering
pub mod Lists
pub mod Followed
-- copies of blocks, by number and by path
pub mod Ranges
pub mod BlockAt
pub mod Locality
pub mod Trails
pub mod Tracing
pub mod Choosing
pub mod Origins
pub mod TracedByPath
-- files
pub mod Lines
pub mod FlatRows
pub mod Files
pub mod TableLines
pub mod SmallFiles
pub mod Waits
pub mod RoundTrips
-- the built-in table, and rows behind it
pub mod DeskTable
pub mod Desk
