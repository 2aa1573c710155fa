pub mod Marking
pub mod Rows
pub mod Leastness
pub mod Following
pub mod BlockLists
pub mod Halving
