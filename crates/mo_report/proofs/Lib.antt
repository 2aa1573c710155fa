mod Examples
pub mod Once
pub mod OneReport
pub mod SameLines
