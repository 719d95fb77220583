pub mod Columns
pub mod Contents
