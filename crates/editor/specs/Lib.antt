pub mod Text
pub mod Chunk
