-- The games that are played with a target body and sets of effects
pub mod GamesWith
-- The evaluators: a forest from its end, the elements judged, the verdict
pub mod Walked
pub mod Evaluated
pub mod VerdictLaws
pub mod ReportExactly
