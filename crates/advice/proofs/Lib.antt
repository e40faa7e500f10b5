pub mod LeftLaws
pub mod WonFromLaws
pub mod AdviceLaws
