-- The definitions of docs/MODEL.md, clause by clause. What is proved of them stands in proofs/Laws.
pub mod Limits
pub mod Bounded
pub mod Columns
pub mod Kinds
pub mod Tasks
pub mod Book
pub mod Listing
pub mod Choice
pub mod Fragments
pub mod Record
pub mod Sound
pub mod Calls
pub mod OnRecord
pub mod History
pub mod Claim
pub mod Sheet
pub mod Program
-- computed from them
pub mod SmallCards
pub mod SheetLines
pub mod ExampleSheet
pub mod ExampleRecord
-- what the contracts of the steps of a call cite beside them
pub mod Parts
pub mod InPlace
pub mod Blocks
pub mod Homes
