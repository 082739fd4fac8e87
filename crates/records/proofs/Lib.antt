-- a write behind another
mod Writing
-- the slices of a buffer, one after the other
mod Slices
-- the segments of a merged frame, from where they lie
mod Stretches
-- headers and the frame behind them
mod Heads
-- a run's record, from its packets where they lie
mod InPlace
