-- Words of the contracts inside this crate, which no public clause cites.
pub mod Comparing
pub mod Sights
