-- What the contracts of `words` cite, and what is proved of it.
pub mod Words
pub mod Laws
