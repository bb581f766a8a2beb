-- What is proved of a record checked in one pass.
pub mod Judged
pub mod Unused
pub mod Before
pub mod Tested
pub mod Entries
pub mod Columns
pub mod Sound
