pub mod Accounts
pub mod Copying
pub mod Growing
pub mod Joining
pub mod PieceBytes
pub mod Places
mod Returning
mod Settling
pub mod Shares
pub mod Splits
