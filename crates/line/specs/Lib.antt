-- What the contracts of this crate cite. What is proved of it stands under Laws.
pub mod Fields
pub mod Calls
pub mod Block
pub mod Device
pub mod Print
pub mod Laws
