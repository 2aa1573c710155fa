-- Words of the contracts inside this crate, which no public clause cites.
pub mod Climbing
pub mod Findings
pub mod Forests
pub mod Leasts
pub mod Listing
pub mod Marking
pub mod Placing
pub mod Stretches
