pub mod Dims
pub mod Indices
pub mod Kinds
pub mod Outcome
pub mod Shape
pub mod Subscripts
