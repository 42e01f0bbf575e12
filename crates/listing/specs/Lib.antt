pub mod Columns
pub mod Layout
