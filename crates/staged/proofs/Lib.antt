pub mod DamageArms
pub mod StageArms
pub mod Sequences
pub mod Examples
pub mod Damaged
pub mod Readings
pub mod Refused
