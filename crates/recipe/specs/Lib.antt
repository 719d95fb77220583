pub mod Positive
pub mod Weights
