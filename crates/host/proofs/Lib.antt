pub mod Elements
pub mod Spelled
pub mod OneEvent
pub mod Worded
