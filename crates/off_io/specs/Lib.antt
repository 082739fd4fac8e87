pub mod Faults
pub mod Content
pub mod Memory
pub mod Told
pub mod Edge
