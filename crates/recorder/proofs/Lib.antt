pub mod Extending
pub mod Marks
