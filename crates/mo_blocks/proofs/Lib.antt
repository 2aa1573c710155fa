pub mod Dummying
pub mod Staging
pub mod Counts
