pub mod Buffering
mod Pieces
mod Bytes
pub mod Appending
pub mod Owing
pub mod Telling
