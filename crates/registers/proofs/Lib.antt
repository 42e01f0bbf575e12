mod Bytes
pub mod Found
