pub mod Deficiency
pub mod Offsets
pub mod Reasons
