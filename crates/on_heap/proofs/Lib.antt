pub mod Fields
pub mod Sent
