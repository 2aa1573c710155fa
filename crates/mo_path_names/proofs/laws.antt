-- The laws, for any test of names.
pub mod Testing
pub mod Declaring
pub mod Tables
pub mod Growing
pub mod Instancing
pub mod Splitting
pub mod Printing
pub mod Variables
pub mod Asked
pub mod Flattening
pub mod Readable
