-- Laws that rest on what the reader of entries says.
pub mod Laws
