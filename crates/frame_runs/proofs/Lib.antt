mod Flowing
mod Hashing
mod Indexing
mod Judged
mod Keys
mod RunItems
mod Running
pub mod Chains
pub mod Comes
pub mod Growing
pub mod Merging
pub mod Payloads
