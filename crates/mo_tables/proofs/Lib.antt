pub mod Names
mod Search
