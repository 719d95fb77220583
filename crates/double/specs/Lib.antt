pub mod Doubles
pub mod Points
