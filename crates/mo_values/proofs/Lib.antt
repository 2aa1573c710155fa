mod Parted
pub mod Lists
pub mod Nodes
mod Rows
pub mod Splitting
pub mod Telling
pub mod TwoOperands
