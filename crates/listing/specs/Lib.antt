-- What the contracts of this crate cite beside the model. What is proved of it stands in Laws.
pub mod Bottoms
pub mod Lists
pub mod Columns
pub mod Output
pub mod Laws
