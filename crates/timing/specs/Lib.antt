pub mod Run
pub mod Ratio
pub mod Accumulator
