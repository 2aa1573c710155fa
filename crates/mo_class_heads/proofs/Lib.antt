pub mod Apart
pub mod ImportNames
pub mod Untraced
