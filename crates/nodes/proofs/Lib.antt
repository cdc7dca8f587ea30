pub mod Words
pub mod Members
pub mod Passing
pub mod Determined
