-- clones that were kept, the packets that they are of, and that a round's work may be compared
pub mod Kept
-- rounds that are counted, and how counting ends
pub mod RoundsCounted
-- and of all rounds together
pub mod Counted
