pub mod LosingReply
pub mod Inner
