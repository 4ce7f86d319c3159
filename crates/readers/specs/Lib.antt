pub mod Parts
pub mod Tell
