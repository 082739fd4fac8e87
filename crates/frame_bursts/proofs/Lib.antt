mod Fields
mod Framing
mod Keeping
mod Laying
mod Placing
mod Rising
mod Without
pub mod Saying
