pub mod Itemized
pub mod Seen
