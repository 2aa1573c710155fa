pub mod Searching
pub mod Trees
pub mod Results
pub mod Room
pub mod Answer
pub mod steps
