pub mod Encoding
pub mod Laws
pub mod Layout
pub mod Recv
