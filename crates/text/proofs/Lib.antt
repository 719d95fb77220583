pub mod Ends
pub mod Leads
pub mod Ones
pub mod Rows
pub mod Written
