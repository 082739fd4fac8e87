pub mod Codes
pub mod Does
pub mod Held
pub mod Home
