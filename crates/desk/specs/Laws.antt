-- What is proved of the definitions.
pub mod Buffer
pub mod Card
pub mod Refusals
pub mod Input
pub mod Listing
pub mod Lines
pub mod Program
