-- Words of the contracts inside this crate, which no public clause cites.
pub mod Finishing
pub mod Gathering
pub mod Listing
pub mod Placing
