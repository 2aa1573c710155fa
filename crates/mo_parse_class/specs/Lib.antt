pub mod WholeFiles
pub mod steps
