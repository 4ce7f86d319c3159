pub mod Numbers
pub mod Rows
pub mod Smallest
pub mod Refusals
