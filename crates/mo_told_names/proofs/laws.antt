-- The laws, for identifiers.
pub mod Read
pub mod Told
