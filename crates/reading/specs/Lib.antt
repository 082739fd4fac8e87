pub mod Data
pub mod Laid
pub mod Reading
pub mod Bodies
pub mod Home
