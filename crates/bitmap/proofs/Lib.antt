pub mod Bits
pub mod Masks
pub mod Equal
pub mod Ones
pub mod Trailing
pub mod Ranges
pub mod Tells
