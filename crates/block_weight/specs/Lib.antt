pub mod WeightRule
