pub mod Slots
pub mod Spelled
