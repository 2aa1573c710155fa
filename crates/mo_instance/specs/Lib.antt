pub mod Attributes
pub mod Passes
pub mod Checks
pub mod Prefixes
pub mod Outer
pub mod Elements
pub mod Instances
pub mod steps
