pub mod Bases
pub mod Sizing
pub mod Types
pub mod steps
