pub mod Rules
pub mod Steps
pub mod Counting
pub mod Chains
pub mod Running
pub mod Keeping
pub mod Facts
pub mod Heads
