pub mod Codes
pub mod Fields
pub mod Inputs
pub mod Lines
