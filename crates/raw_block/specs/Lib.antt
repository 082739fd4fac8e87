pub mod Heap
pub mod Lending
pub mod Overwriting
pub mod Releases
pub mod Shares
pub mod Views
