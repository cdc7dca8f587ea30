pub mod Walk
pub mod Reach
pub mod Connected
pub mod Flood
pub mod Remaining
