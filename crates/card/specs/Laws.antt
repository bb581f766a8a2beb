-- From what a call is on a byte string to what its function promises, return by return.
pub mod Answers
pub mod Checks
pub mod Place
pub mod Positions
pub mod Release
pub mod Intervals
pub mod Fragments
