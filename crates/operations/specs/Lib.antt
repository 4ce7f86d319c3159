pub mod Operations
pub mod Numbered
