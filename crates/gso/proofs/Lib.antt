mod BufferSums
mod Chunks
mod Fronted
mod Places
pub mod Least
-- a segment's payload, where it lies, and the next one behind it
pub mod Payloads
