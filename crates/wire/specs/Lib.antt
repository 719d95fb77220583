pub mod Bytes
pub mod Cursor
pub mod Cursors
pub mod Encoding
pub mod Items
pub mod Words
