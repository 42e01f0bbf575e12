mod Looking
mod Weighing
pub mod QuietFiring
pub mod BareMotion
pub mod Jumping
mod Ticks
