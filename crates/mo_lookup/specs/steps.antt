-- Words of the contracts inside this crate, which no public clause cites.
pub mod Leaves
pub mod Redeclared
pub mod Settled
