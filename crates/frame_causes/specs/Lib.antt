pub mod Asks
pub mod Causes
pub mod Pairs
