pub mod Cutting
pub mod Gathering
mod Reading
pub mod Start
