pub mod Filling
pub mod Wire
pub mod Passing
pub mod Counting
pub mod Laws
