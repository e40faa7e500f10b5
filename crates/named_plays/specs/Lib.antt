pub mod NamedPlays
pub mod Listing
