pub mod Vxlan
pub mod Gre
