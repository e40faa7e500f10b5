pub mod Refusal
pub mod Record
pub mod File
pub mod Accepted
pub mod Loaded
pub mod RefusalNumber
