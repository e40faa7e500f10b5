pub mod VerdictNumber
pub mod Report
pub mod Inner
