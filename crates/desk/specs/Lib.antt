-- What the contracts of this crate cite. What is proved of it stands under Laws.
pub mod Buffer
pub mod Desk
pub mod Held
pub mod Fault
pub mod Input
pub mod Run
pub mod Laws
