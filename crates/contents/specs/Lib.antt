pub mod Part
pub mod Contents
pub mod Bodies
pub mod Decide
pub mod Inner
