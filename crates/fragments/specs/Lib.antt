-- How a card's connected sets and free cells are counted by its intervals. The definitions of MODEL 22 stand in the model.
pub mod Sweep
pub mod Nodes
pub mod OnBytes
pub mod Free
pub mod Laws
