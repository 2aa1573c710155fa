pub mod Grammar
pub mod Nodes
pub mod Roles
pub mod Sound
pub mod SoundArray
pub mod SoundConnects
pub mod Text
