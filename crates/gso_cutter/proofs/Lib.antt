mod Heads
mod Steps
mod Summing
mod Turns
mod Weights
