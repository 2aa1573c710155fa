pub mod Claims
pub mod Elements
pub mod Entering
pub mod Existing
pub mod Finding
pub mod Grouping
pub mod LeftSources
pub mod Making
pub mod Passing
pub mod PathTests
mod Rows
pub mod Stepped
