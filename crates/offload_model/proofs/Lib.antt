pub mod Fronts
mod Fields
pub mod Grows
mod Determined
pub mod Identity
pub mod Edits
pub mod Filled
pub mod Made
pub mod Functions
mod Whole
mod Lawful
pub mod Modes
mod ByRelations
pub mod Ranges
pub mod Decides
pub mod Opened
pub mod Records
pub mod Lists
pub mod Shown
pub mod Within
mod RunRecords
pub mod Items
pub mod Flows
pub mod Rounding
pub mod Needs
mod Lengths
pub mod Passings
pub mod Behind
pub mod Steps
mod Growing
pub mod Captured
mod ReadBack
mod WrittenBack
pub mod OneQueue
mod Choices
mod FlowLists
pub mod ComesBack
mod Tunnels
