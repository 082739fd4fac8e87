pub mod Texts
pub mod Clones
pub mod Shown
