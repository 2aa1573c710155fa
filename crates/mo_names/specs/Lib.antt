pub mod Calls
pub mod Children
pub mod Past
pub mod Sights
pub mod steps
