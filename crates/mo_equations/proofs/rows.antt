-- Worked examples of the equations of instances.
pub mod Notation
pub mod Arrays
pub mod Bindings
pub mod Connects
pub mod Constants
pub mod Equations
pub mod Sections
