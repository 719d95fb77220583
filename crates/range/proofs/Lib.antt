pub mod Bounds
pub mod Laws
pub mod Layouts
pub mod Sides
pub mod Whole
