-- Laws on what resolved expressions have, and on all that the definitions of values answer.
pub mod Answered
pub mod Ended
pub mod Knowing
pub mod Layered
pub mod Resolves
pub mod TypeSizes
