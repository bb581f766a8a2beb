-- What is proved of a record that is left.
pub mod Leave
