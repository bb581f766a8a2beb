-- What the contracts of `column` cite, and what is proved of it.
pub mod Part
pub mod Laws
pub mod Rewrite
