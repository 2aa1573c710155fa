-- Words of the contracts inside this crate, which no public clause cites.
pub mod Absence
pub mod Asking
pub mod Calling
pub mod Choosing
pub mod Dividing
pub mod Ending
pub mod Measuring
pub mod Naming
pub mod Parts
pub mod Selecting
pub mod Sites
pub mod Spelling
pub mod Subscripting
