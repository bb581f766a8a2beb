-- What is proved of blocks in their homes, of scores, of ranges, and of the best position.
pub mod Homes
pub mod Scores
pub mod Climbs
pub mod Columns
