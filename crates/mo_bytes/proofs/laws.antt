-- Laws.
pub mod Placing
pub mod Expressions
pub mod Classes
pub mod Elements
pub mod Trees
pub mod ClassTree
pub mod Holding
pub mod Lexed
pub mod Phases
pub mod Told
pub mod Emitted
pub mod Written
