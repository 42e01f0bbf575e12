pub mod Lowest
pub mod Stack
pub mod Recording
pub mod Meeting
