-- What the contracts of this crate cite beside the model. What is proved of it stands under Laws.
pub mod Device
pub mod Clear
pub mod Columns
pub mod Entries
pub mod Edit
pub mod Enter
pub mod Leave
pub mod Fits
pub mod Laws
