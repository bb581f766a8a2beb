-- What is proved of slices that are tested for zeros.
pub mod Zeros
