pub mod Counting
pub mod Good
pub mod Names
pub mod Printing
pub mod Reading
pub mod SoundForms
