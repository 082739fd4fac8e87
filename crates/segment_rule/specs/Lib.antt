pub mod Segmentations
pub mod Modes
