pub mod Checking
pub mod Leaving
