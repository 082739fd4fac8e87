pub mod Counts
pub mod Returned
pub mod Lines
pub mod Checking
pub mod Tallies
