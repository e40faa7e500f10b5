pub mod MaskBound
pub mod TargetBody
pub mod ReplyBody
