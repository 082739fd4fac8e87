pub mod RunState
pub mod Moving
