pub mod Octets
pub mod Recv
pub mod Utf8
