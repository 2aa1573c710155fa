pub mod Floats
pub mod Below
mod Examples
pub mod SameData
