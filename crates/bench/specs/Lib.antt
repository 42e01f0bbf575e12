pub mod Listings
pub mod Operations
pub mod Scripts
pub mod Benches
