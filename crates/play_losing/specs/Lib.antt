pub mod LosingAnswer
pub mod Inner
