pub mod Among
pub mod Tells
pub mod PairArms
pub mod Agree
pub mod Numbered
