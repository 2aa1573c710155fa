pub mod Counting
pub mod Lists
pub mod Order
pub mod Edges
pub mod steps
