pub mod Back
pub mod Match
pub mod Piles
