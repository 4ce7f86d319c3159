pub mod Decoding
pub mod Turns
pub mod Filling
pub mod Carried
pub mod Example
pub mod Marks
