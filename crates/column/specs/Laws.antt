-- What is proved of a column's part: for callers of `cut`, `join`, `holder` and `reaching`, and of their loops.
pub mod Part
pub mod Lent
pub mod Reading
pub mod Writing
pub mod Held
pub mod Reaching
