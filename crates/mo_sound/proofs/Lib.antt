pub mod Shaped
pub mod Ordered
pub mod Kinded
pub mod Related
pub mod Deciding
