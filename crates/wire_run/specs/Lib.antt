pub mod Lines
pub mod Wired
pub mod Answers
