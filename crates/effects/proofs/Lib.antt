-- Replies and where the runs lead
pub mod EffectReach
-- The numbers: what one tells, how they are written, and the sets that go with them
pub mod ToldLaws
pub mod WrittenLaws
pub mod PutLaws
pub mod SetLaws
-- For callers
pub mod Collected
pub mod WithinLaws
pub mod EffectLaws
pub mod TellLaws
pub mod EffectsExactly
