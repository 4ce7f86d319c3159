pub mod Tagged
pub mod Digits
pub mod Agree
