pub mod Limits
pub mod Members
pub mod InOrder
