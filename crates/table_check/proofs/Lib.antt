pub mod Running
pub mod Vectors
