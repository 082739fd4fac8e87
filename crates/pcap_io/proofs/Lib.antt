pub mod Fronts
mod Judging
pub mod HeadLaws
pub mod RecordLaws
pub mod LengthLaws
pub mod SplitLaws
