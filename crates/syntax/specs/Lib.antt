pub mod Printed
pub mod Parsed
