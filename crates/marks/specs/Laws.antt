-- What is proved of a task's blocks, marked as bits.
pub mod Marks
