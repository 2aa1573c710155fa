pub mod Seen
pub mod Starts
