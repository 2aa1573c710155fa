pub mod Checking
pub mod Kept
pub mod Later
pub mod Matching
pub mod Outcomes
pub mod Pairs
pub mod Speaking
pub mod Tables
