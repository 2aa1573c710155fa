pub mod Written
pub mod TreeWritten
pub mod Pieces
pub mod Stands
pub mod InFiles
pub mod MadeStands
pub mod Resolved
pub mod Laws
