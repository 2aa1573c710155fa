pub mod Identifiers
pub mod Delimited
pub mod Named
pub mod Laws
