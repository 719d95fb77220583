pub mod Encoding
pub mod Laws
pub mod Mapping
pub mod Layout
pub mod Recv
