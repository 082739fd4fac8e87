pub mod Leaving
pub mod Segmenting
