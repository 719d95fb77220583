pub mod Agree
pub mod Deep
pub mod Judging
pub mod Ranges
pub mod Written
