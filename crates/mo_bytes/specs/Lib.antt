pub mod Bytes
pub mod Held
pub mod Laws
pub mod steps
