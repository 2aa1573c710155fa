pub mod Counts
pub mod Contents
pub mod Written
pub mod Memory
