pub mod Elapsing
mod Playing
