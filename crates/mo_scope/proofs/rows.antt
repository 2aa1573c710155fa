-- Worked examples of the definitions of names.
pub mod Notation
pub mod Access
pub mod Imports
pub mod Modifiers
