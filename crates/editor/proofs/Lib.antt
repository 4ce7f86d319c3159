pub mod Writing
pub mod Decimal
pub mod Performing
pub mod Example
