-- What is proved of joined nodes, of their sets, and of the forest that counts these.
pub mod Lists
pub mod Joined
pub mod Represents
pub mod Classes
pub mod Groups
pub mod Tops
pub mod Unions
pub mod Count
