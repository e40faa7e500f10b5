pub mod FetchLaws
pub mod FetchRefusals
pub mod FormLaws
