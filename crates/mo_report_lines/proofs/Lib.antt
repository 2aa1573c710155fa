pub mod Runs
pub mod Numbers
pub mod Words
pub mod Quotes
pub mod Separated
pub mod Parts
pub mod Derivatives
pub mod Forms
pub mod Options
pub mod Texts
pub mod OffsetLines
mod Examples
