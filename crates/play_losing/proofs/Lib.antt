pub mod LosingAnswerLaws
pub mod LosingReplyExactly
