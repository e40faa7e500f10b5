pub mod Slots
pub mod MoveParts
pub mod MoveMade
