pub mod Bounds
pub mod Causes
pub mod Cutting
pub mod Front
pub mod Inverse
pub mod LinkNumbers
pub mod Made
