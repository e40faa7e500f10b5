pub mod First
pub mod Wanted
pub mod Stops
pub mod Insides
pub mod Spelled
