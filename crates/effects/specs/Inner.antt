pub mod Sets
pub mod EffectForest
pub mod WithForm
pub mod Lent
pub mod Numbers
