pub mod Members
pub mod Better
pub mod Remaining
pub mod Giving
