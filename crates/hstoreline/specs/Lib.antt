pub mod Hstores
