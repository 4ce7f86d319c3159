pub mod ReaderArms
pub mod Tell
