pub mod Network
pub mod Reach
