pub mod Parcels
pub mod Reads
pub mod Handled
