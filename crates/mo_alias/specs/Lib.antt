pub mod Numbers
pub mod Recognized
pub mod Chains
pub mod Aliases
pub mod Without
pub mod Meaning
pub mod Text
pub mod steps
