-- The theory of runs with a step. Definitions stand here, what is proved of them under Laws.
pub mod Runs
pub mod Intervals
pub mod Meet
pub mod Laws
