pub mod Sets
pub mod Levels
