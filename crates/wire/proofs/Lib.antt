pub mod Counts
pub mod Cursors
pub mod Fitting
pub mod Nullables
pub mod Reading
pub mod Taking
pub mod Wording
pub mod Writing
