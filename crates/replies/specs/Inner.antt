pub mod Links
pub mod Linking
pub mod Relation
pub mod Transitions
