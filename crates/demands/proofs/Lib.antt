-- That the definitions meet the demands.
pub mod Answers
pub mod Buffers
pub mod Outcomes
pub mod Answered
-- which rows are a show, and which refusal is given
pub mod Tests
pub mod Columns
pub mod Openings
pub mod Knows
pub mod Following
pub mod Sentences
pub mod Stages
pub mod RowByRow
pub mod PartsOfRows
pub mod BlocksOfRows
pub mod TotalsOfRows
pub mod BlockByBlock
pub mod Together
pub mod Acceptance
pub mod Blocks
pub mod Refusals
pub mod Words
-- files
pub mod Padding
pub mod Breaks
pub mod ReadCases
pub mod Reading
pub mod RoundTrips
pub mod Writing
-- the unfolding by single steps
pub mod Rearranging
pub mod Counts
pub mod PutIn
pub mod Nodes
pub mod Standing
pub mod Replacement
pub mod RingSteps
pub mod Apart
pub mod SumsApart
pub mod Ring
-- numbers and paths
pub mod NumberOrder
pub mod Numbers
-- copies by their paths
pub mod Copies
-- lists and pages
pub mod Rising
pub mod Pages
pub mod Lists
-- the row behind a follow-on
pub mod LinkRows
pub mod LinksOfRows
pub mod Winning
pub mod RowBehind
-- the fewest follow-ons, the work area, notes
pub mod WorkArea
pub mod Shortest
pub mod Notes
-- wait files, the label's wait in each, chains with their sums, the quickest way
pub mod WaitTexts
pub mod WaitLines
pub mod Waits
pub mod LabelWaits
pub mod WaitFiles
pub mod WaitCases
pub mod Sums
pub mod Quickest
pub mod QuickestAsked
pub mod Askable
-- what is printed
pub mod NumberTexts
pub mod Triples
pub mod Printed
pub mod OneText
-- the built-in table, and the second way of reading
pub mod DeskTable
pub mod DeskReading
pub mod DeskExample
pub mod DeskWork
