pub mod Bytes
pub mod Payloads
pub mod Segments
pub mod Chain
pub mod KeptFlows
pub mod Items
pub mod Texts
pub mod Compared
