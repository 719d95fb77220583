pub mod Answers
pub mod Bottoms
pub mod Layers
pub mod Spelled
