pub mod Levels
pub mod Selection
pub mod Text
pub mod steps
