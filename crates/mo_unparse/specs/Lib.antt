pub mod PlacelessClasses
pub mod Placeless
pub mod ReadAgain
