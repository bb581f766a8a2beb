-- What the contracts of this crate cite beside the model. What is proved of it stands in Laws.
pub mod Bounds
pub mod Choosing
pub mod Laws
