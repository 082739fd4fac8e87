-- record by record
pub mod Passing
-- more bytes make nothing less
mod Growing
-- sums that are right
mod Rights
-- the segments of a packet that is cut
mod Cutting
