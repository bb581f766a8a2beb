-- What is proved of bits, of the cells that they stand for, and of a column's part.
pub mod Bits
pub mod Spots
pub mod Coded
pub mod Ends
pub mod Marks
pub mod Count
pub mod Walks
pub mod Writes
pub mod Compares
pub mod Book
