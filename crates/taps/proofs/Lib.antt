-- the windows of packets, and their records
pub mod Windows
-- what the clones hold, given back one after another
pub mod Returning
-- the windows in memory, one more of them, and those of the packets so far
pub mod Spans
