pub mod Bits
pub mod Shapes
pub mod Words
