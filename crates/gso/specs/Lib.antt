pub mod Sums
pub mod Planning
pub mod Places
