pub mod Plans
pub mod Leaving
