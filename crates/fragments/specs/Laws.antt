-- What is proved: the sweep finds every touching pair, runs count as their cells do, and the bytes of a record have its runs.
pub mod Sweep
pub mod Indexed
pub mod Grid
pub mod Summed
pub mod Count
pub mod OnBytes
pub mod Free
