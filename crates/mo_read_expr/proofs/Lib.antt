pub mod ArgumentLoops
