pub mod Deeper
pub mod Specimens
