-- What is proved of runs, intervals and the meeting of ranges.
pub mod Tests
pub mod Steps
pub mod Canon
pub mod Push
pub mod Runs
pub mod Places
pub mod Intervals
pub mod Grid
pub mod Streaming
pub mod Lcm
pub mod Meet
pub mod Both
pub mod Stepped
