pub mod Imports
pub mod Left
pub mod Prefixes
pub mod Within
