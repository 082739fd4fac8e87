mod ModeBits
pub mod Segments
pub mod Judged
