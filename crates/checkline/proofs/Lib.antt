mod Layering
mod Spelling
