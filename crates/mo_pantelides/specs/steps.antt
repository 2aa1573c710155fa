-- Words of the contracts inside this crate, which no public clause cites.
pub mod Fixing
pub mod Raising
pub mod Ranks
pub mod Seeking
