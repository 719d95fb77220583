pub mod Kinds
pub mod Totals
