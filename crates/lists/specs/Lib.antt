pub mod Lists
pub mod Own
pub mod Exact
pub mod Acts
pub mod Refusals
pub mod Lengths
pub mod Keep
