-- blocks that are filled one after another
mod Filling
-- blocks in turn, and packets as they are laid in them
pub mod Laying
-- a record that is read
mod Recording
-- where a reader stands at one
pub mod Standing
-- the blocks that it takes
mod Spending
