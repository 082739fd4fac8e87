pub mod Answers
pub mod Bounds
pub mod Ends
pub mod Options
