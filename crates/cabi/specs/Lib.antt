pub mod Sums
pub mod Writes
