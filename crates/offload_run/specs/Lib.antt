pub mod Engines
pub mod Ended
pub mod Streaming
