pub mod Tagged
pub mod Digits
pub mod Masks
pub mod Agree
