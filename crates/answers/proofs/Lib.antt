pub mod Answering
pub mod Signs
pub mod Steps
pub mod Texts
