pub mod Start
pub mod Advice
pub mod Inner
