-- Words of the contracts inside this crate, which no public clause cites.
pub mod Bases
pub mod Joins
pub mod Lookup
pub mod Parts
pub mod Twins
