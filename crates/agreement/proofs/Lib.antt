pub mod Columns
pub mod Same
pub mod Steps
