pub mod Meaning
pub mod LastHeard
pub mod Plays
