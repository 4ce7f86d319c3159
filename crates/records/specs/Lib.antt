pub mod Records
pub mod Fill
pub mod Marks
pub mod Filled
pub mod Words
