pub mod FetchRules
pub mod Inner
