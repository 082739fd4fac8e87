pub mod Checksum
pub mod Copy
pub mod Cut
pub mod Fronts
pub mod Lending
pub mod Moving
pub mod PullUp
pub mod SkbState
