-- Words of the contracts inside this crate, which no public clause cites.
pub mod Depths
pub mod Growing
pub mod Staging
pub mod Ties
