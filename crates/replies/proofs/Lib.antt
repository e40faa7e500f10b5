pub mod RelationLaws
pub mod LinkLaws
pub mod RulesPut
pub mod TransitionLaws
pub mod LawfulPass
pub mod LawfulAnswer
pub mod SomeState
