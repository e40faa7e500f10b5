pub mod Kind
pub mod Demand
pub mod Replacing
pub mod SpelledOutcome
