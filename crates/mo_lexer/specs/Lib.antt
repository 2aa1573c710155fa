pub mod Bytes
pub mod Lexing
pub mod Spelling
pub mod steps
