-- What is proved of the code's blocks, and of tasks tested block by block.
pub mod Blocks
pub mod Tasks
