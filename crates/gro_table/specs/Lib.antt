pub mod Build
pub mod Held
pub mod Items
pub mod Lists
pub mod Places
pub mod Table
pub mod Totals
pub mod Waiting
