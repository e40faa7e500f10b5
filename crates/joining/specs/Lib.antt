pub mod WinningStates
pub mod Joined
