pub mod Desks
pub mod Givers
pub mod Loads
pub mod Tasks
