pub mod Saturation
pub mod Listing
pub mod FormStates
pub mod Effect
pub mod Least
