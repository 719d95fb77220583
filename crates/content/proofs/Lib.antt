pub mod Arrays
pub mod Counts
pub mod Raising
