-- what comes home and what is owed, mark by mark
mod Places
-- objects that come home one after another
mod Coming
-- the blocks of a round whose heads were shared
mod Taking
-- which block each mark of a round has
mod Naming
-- a round that is read
mod Rounding
-- what it counts, step by step
mod Counting
-- a round that waits behind a header, and its rest
pub mod Pausing
-- what it comes to, by each way that it ends
mod Ending
-- what a call keeps of a round
mod Working
-- what lanes hold, the last one apart
mod LaneCounts
-- packets that are short enough to be written
mod Small
-- packets that are worked in lanes, with clones beside them
mod Keeping
-- what is written of rounds that are worked in lanes
mod Lanes
-- a giver that is lent for a round
pub mod Lending
-- rounds that were read one after another
pub mod Rows
-- rounds that were handled one after another
pub mod Going
-- as many blocks were taken as packets need
pub mod Needs
-- rounds that are merged
pub mod Merging
-- what is written of them one after another, and how merging ends
pub mod Written
