pub mod Marks
pub mod Texts
pub mod Both
