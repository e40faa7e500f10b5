pub mod FileEffects
pub mod LoadedFor
