pub mod Agreed
pub mod Book
pub mod Reading
pub mod Runs
