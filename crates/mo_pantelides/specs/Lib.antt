pub mod Raising
pub mod Ranks
