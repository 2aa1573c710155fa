pub mod Alike
pub mod Breaking
pub mod Everywhere
pub mod KeySets
pub mod Listing
pub mod Numbering
pub mod Repeating
pub mod Steps
