pub mod LosingReplyLaws
pub mod LosingReplyTied
pub mod FoundLaws
