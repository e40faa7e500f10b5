pub mod Kept
pub mod AdviceNumber
pub mod Inner
