pub mod Counts
pub mod Duos
pub mod Stepping
pub mod Access
