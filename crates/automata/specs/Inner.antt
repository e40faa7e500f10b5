pub mod ForestRun
pub mod FormState
pub mod Rules
pub mod TargetRead
pub mod MaskTable
pub mod NextIn
pub mod StatesIn
