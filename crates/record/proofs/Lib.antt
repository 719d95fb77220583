pub mod Laws
pub mod Same
