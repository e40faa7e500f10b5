-- Laws of tests, lists and tables
pub mod Truth
pub mod ListLaws
pub mod Table
pub mod Decided
-- The vocabulary, tags as bytes, and numbers
pub mod Marks
pub mod Bytes
pub mod ByteLists
-- What is left of a word, what is open in it, and where the innermost open element closes
pub mod RestLaws
pub mod OpenLaws
pub mod Innermost
-- Forests one after another, how long they are, cut in two, from their end, and as a pass over them meets them
pub mod ForestJoined
pub mod ForestLong
pub mod Cuts
pub mod ForestEnds
pub mod ForestLevels
-- The scan that judges a slice
pub mod StackLaws
pub mod Pass
pub mod Judgement
