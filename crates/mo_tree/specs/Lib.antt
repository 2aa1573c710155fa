pub mod Keys
pub mod steps
