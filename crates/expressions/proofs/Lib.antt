pub mod Promise
pub mod Givens
pub mod Nodes
pub mod Walking
pub mod Halves
pub mod Whole
