pub mod Due
pub mod Located
