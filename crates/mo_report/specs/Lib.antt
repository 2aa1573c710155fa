pub mod Lines
pub mod Size
pub mod Right
pub mod Same
