-- Sets of nodes that steps join, and a forest that counts them. Definitions stand here, what is proved of them under Laws.
pub mod Graph
pub mod Forest
pub mod Laws
