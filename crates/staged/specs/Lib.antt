pub mod Workers
pub mod Start
pub mod Damage
pub mod Damaged
pub mod Moves
pub mod Readings
pub mod Refused
pub mod Exact
