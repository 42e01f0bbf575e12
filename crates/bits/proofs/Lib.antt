pub mod Made
pub mod Packing
