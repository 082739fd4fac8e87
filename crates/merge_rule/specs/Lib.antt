pub mod Next
pub mod Plain
pub mod Runs
pub mod Steps
