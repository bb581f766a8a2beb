-- What is proved of bottoms and of lists of runs.
pub mod Bottoms
pub mod Blocks
pub mod Lists
pub mod Walk
pub mod Column
pub mod Output
