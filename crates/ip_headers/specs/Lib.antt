pub mod Ip4
pub mod Ip6
