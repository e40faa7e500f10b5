pub mod Settled
pub mod Used
pub mod Forgotten
pub mod Begun
