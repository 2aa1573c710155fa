-- Laws of the definitions of names.
pub mod Comparing
pub mod Finding
pub mod Naming
pub mod Number
pub mod Numbers
pub mod Passing
pub mod Places
pub mod Sources
pub mod Standing
pub mod Tables
pub mod TreeParts
pub mod Trees
