pub mod Memory
pub mod SetMachine
pub mod WeightMachine
pub use Rattle.block_weight.specs.WeightRule
pub mod Agreement
