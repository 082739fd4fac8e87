pub mod Draws
pub mod Headers
pub mod Frames
pub mod Capture
pub mod Laws
