-- What the contracts of `soundness` cite, and what is proved of it.
pub mod Soundness
pub mod Laws
