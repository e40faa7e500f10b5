pub mod Deciders
pub mod Words
