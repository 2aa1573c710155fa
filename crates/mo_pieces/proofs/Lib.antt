pub mod Growth
pub mod Written
