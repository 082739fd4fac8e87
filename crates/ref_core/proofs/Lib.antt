mod Holdings
mod Weighing
mod Agreeing
mod Placing
mod Runs
