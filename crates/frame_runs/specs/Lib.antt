pub mod Chains
pub mod Engine
pub mod Flows
pub mod Frames
pub mod Index
pub mod Lent
pub mod MergedRun
pub mod OpenGroups
