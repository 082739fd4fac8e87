-- a round that was read beside the work of another, and its rest
mod Beside
