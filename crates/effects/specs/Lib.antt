pub mod Effect
pub mod Effects
pub mod Decide
pub mod Inner
