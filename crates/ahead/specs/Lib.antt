pub mod Ahead
pub mod Out
pub mod PausedState
