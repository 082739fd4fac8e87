-- what goes through the rings
pub mod Rows
-- a giver that is lent, and comes back
mod Lending
-- what both sides say together
mod Together
-- blocks that are counted once both sides have ended
mod Counting
-- the same ends of rings and the same bench
mod Kept
