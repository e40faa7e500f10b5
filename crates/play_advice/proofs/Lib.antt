pub mod PlayLeft
pub mod StartLaws
pub mod AdviceRefusals
