pub mod Numbers
pub mod Scalars
pub mod Walk
pub mod Told
pub mod Asked
pub mod Made
pub mod Selected
pub mod steps
