pub mod Walks
pub mod Arms
pub mod Kept
pub mod Sequences
pub mod Examples
pub mod Acts
pub mod Refusals
pub mod Lengths
