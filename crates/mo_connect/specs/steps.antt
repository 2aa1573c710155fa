-- Words of the contracts inside this crate, which no public clause cites.
pub mod Forest
pub mod Gathering
pub mod Labels
