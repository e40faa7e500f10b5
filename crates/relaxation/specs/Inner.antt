pub mod Pairs
pub mod PairSet
pub mod Lengths
pub mod Wraps
pub mod Relaxation
