pub mod Laws
pub mod Layout
pub mod Recv
pub mod Views
