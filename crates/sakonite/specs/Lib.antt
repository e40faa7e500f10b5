pub mod History
pub mod Played
pub mod Entries
pub mod LosingAfter
pub mod HostDemand
pub mod Decide
pub mod Inner
