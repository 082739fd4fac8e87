pub mod Ethernet
pub mod Tag
