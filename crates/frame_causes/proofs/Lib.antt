mod Deciding
-- two frames have no cause exactly where they may be merged
pub mod Pairs
