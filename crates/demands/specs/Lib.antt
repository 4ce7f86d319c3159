pub mod Simple
pub mod Moments
pub mod Relation
pub mod Every
pub mod Trail
pub mod Compare
pub mod Runs
pub mod ByHand
