pub mod Target
pub mod Reply
pub mod Bits
pub mod TargetBody
pub mod ReplyBody
pub mod Small
pub mod Decide
pub mod Inner
