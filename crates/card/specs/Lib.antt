-- What the calls promise, and how each return of a function shows it.
pub mod Refusals
pub mod Answers
pub mod Leaves
pub mod Checks
pub mod Calls
pub mod Laws
