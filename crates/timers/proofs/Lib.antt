pub mod Lowering
pub mod Laps
pub mod Waits
pub mod Steps
