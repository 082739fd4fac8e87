-- lists of blocks that are taken and given
pub mod Listing
