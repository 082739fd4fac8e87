pub mod Opening
pub mod Merged
pub mod Whole
pub mod Sums
pub mod Cutting
