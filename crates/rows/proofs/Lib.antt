pub mod Rowing
pub mod Windowing
