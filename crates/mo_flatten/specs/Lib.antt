pub mod Flat
pub mod Named
pub mod Told
