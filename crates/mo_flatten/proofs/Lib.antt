mod Once
pub mod Alone
mod Past
pub mod Telling
pub mod Sized
