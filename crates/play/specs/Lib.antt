pub mod Play
pub mod Moves
pub mod MoveRules
pub mod Entries
pub mod Decide
pub mod Inner
