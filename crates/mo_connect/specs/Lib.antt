pub mod Alike
pub mod Equations
pub mod Joins
pub mod Sets
pub mod steps
