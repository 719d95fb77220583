pub mod Adding
pub mod Again
