pub mod Printed
pub mod Reading
pub mod Faults
pub mod Finding
pub mod Steps
pub mod Verdict
