pub mod PlayedWith
pub mod Evaluated
