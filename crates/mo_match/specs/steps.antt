-- Words of the contracts inside this crate, which no public clause cites.
pub mod Lists
pub mod Spreading
pub mod Threads
