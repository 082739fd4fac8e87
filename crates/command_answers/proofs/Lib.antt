-- ---- a whole capture: its file header, and the records behind it

-- what is said of each answer
pub mod Behind
-- what was written, whatever the answer
pub mod Prefixes
-- what was taken
pub mod Used
-- ---- where nothing was read

pub mod Unread
-- ---- in plain words

mod PlainWords
mod CheckedWords
mod PrefixWords
-- merging and then segmenting
mod BothWays
