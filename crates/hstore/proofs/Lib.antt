pub mod Forms
pub mod Laws
pub mod Sizes
pub mod Texts
pub mod Writes
