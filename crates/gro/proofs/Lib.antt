pub mod Lying
pub mod Weights
