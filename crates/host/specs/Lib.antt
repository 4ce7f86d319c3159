pub mod Spelling
pub mod Calls
pub mod Words
