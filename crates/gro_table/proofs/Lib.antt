mod Comes
mod Emptying
mod Following
mod Joined
mod Lent
mod Lining
mod Placing
mod Releasing
mod Tables
mod Taking
pub mod Finishing
