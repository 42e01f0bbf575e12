pub mod Repeats
pub mod Turns
pub mod Driven
pub mod Bare
