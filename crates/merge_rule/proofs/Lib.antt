mod Headers
mod Decide
mod Heads
pub mod Knows
pub mod Steps
pub mod Merge
