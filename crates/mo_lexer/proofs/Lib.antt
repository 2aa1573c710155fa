mod Comments
mod Endings
pub mod Fronts
pub mod Marks
mod Narrow
mod Numbers
mod OneKind
mod Quoted
mod Reached
pub mod Refusals
pub mod Shapes
mod Stuck
pub mod Unique
mod Words
