pub mod Words
pub mod Bus
pub mod Ports
