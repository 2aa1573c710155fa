pub mod Columns
mod Answering
mod Dotting
mod Asking
mod Digits
mod Laddering
mod Emitting
mod OneByOne
mod Loaded
mod Writing
mod SoundTrees
mod Verifying
mod OneVerdict
pub mod Once
mod OneLeast
mod OneTold
mod OneAsked
mod Structuring
