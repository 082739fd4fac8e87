pub mod Overwriting
mod Beside
mod Endings
mod Entries
mod Fields
mod Lending
mod Naming
mod Opening
mod Ranges
mod Sent
mod Sharing
mod Steps
mod Walking
