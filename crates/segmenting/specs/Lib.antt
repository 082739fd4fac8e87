pub mod Cutting
pub mod SegmentState
pub mod Segmenting
