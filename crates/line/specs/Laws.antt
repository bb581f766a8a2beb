-- What is proved of the definitions.
pub mod Fields
pub mod Numbers
pub mod Calls
pub mod Device
pub mod Block
pub mod Print
pub mod Reading
