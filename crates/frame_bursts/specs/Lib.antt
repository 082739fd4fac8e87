pub mod Burst
pub mod Kept
pub mod Links
pub mod Places
pub mod Without
