pub mod Limits
pub mod Contents
pub mod Bytes
pub mod Order
