mod Places
mod Parts
pub mod Decimal
