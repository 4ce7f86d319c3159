pub mod Limits
pub mod Page
pub mod Walk
pub mod Sequences
pub mod Keeps
pub mod Facts
pub mod Heads
