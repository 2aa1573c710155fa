pub mod Chains
pub mod Children
mod Leaves
pub mod Owners
pub mod Paths
pub mod TypeSizes
pub mod Written
mod OwnedWalks
mod Settling
