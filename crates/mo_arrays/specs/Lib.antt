pub mod Elements
pub mod Equations
pub mod Sound
pub mod steps
