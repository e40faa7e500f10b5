pub mod Checks
pub mod Samples
pub mod LeastReplies
pub mod BodyChecks
pub mod AllPlays
pub mod P5Listing
