-- ---- a status: how a command ended, its code, and its line in the log

pub mod Ending
pub mod Codes
pub mod Log
-- ---- what each answer says, by the command

pub mod Output
pub mod Checking
pub mod Making
pub mod RunAnswers
pub mod PlainWords
pub mod Laws
