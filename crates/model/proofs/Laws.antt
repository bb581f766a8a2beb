-- What is proved of the model's definitions, from the tools up.
pub mod Bounded
pub mod Each
pub mod Members
-- lists and bytes
pub mod Changed
pub mod Parts
pub mod Tables
pub mod Slots
-- columns, tasks and where they fit
pub mod Columns
pub mod Kinds
pub mod Signed
pub mod Tasks
pub mod Fits
pub mod Steps
pub mod Limits
pub mod Cells
pub mod Split
pub mod Listing
-- the record
pub mod Layout
pub mod Record
pub mod Entries
pub mod ColumnPart
pub mod Plain
pub mod Clauses
pub mod WriteBack
pub mod ReadBack
pub mod Sound
-- the choice
pub mod Homes
pub mod Firsts
pub mod Stretch
pub mod Gaps
pub mod Pieces
pub mod Raised
pub mod Climb
pub mod Choice
pub mod Ends
pub mod NoPosition
pub mod After
-- how broken up a card is
pub mod Fragments
-- the book after a call
pub mod OnRecord
pub mod Answers
pub mod Kept
pub mod Same
pub mod Freed
pub mod OtherColumns
pub mod OnCells
pub mod InOrder
pub mod RangeBytes
pub mod Step
pub mod History
