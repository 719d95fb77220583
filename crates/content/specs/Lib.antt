pub mod Calls
pub mod Encoders
pub mod Held
pub mod Rules
