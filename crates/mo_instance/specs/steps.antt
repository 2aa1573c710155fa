-- Words of the contracts inside this crate, which no public clause cites.
pub mod Checks
pub mod FirstPass
pub mod Firsts
pub mod Instances
pub mod Outer
pub mod Roots
pub mod Sights
pub mod Speeches
pub mod Walks
pub mod Ways
