pub mod ClassCounts
pub mod CountLemmas
pub mod Found
pub mod Outlines
pub mod Searching
pub mod SoundParts
