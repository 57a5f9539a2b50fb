-- What a reader must believe, in the order in which document 01 is best followed: values, the file, the rows and their checks, blocks, the
-- unfolding, numbers, lists, rows behind follow-ons, the fewest follow-ons, the blocks of the desk, waits and the quickest way, the questions, and what is
-- promised of them.
-- Quotations in comments are from document 01, unless 02 is named.
pub mod Choice
pub mod Limits
pub mod Reasons
pub mod Values
pub mod Text
pub mod Rows
pub mod Rules
pub mod Blocks
pub mod Verdicts
pub mod Unfolding
pub mod Paths
pub mod Lists
pub mod Behind
pub mod Chains
pub mod Summaries
pub mod Desk
pub mod Tables
pub mod Waits
pub mod Quickest
pub mod Answers
pub mod Questions
pub mod Asking
pub mod Printed
pub mod Ring
pub mod Starred
