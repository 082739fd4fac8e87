-- a round
pub mod Compared
-- round by round
pub mod Handling
pub mod Whole
