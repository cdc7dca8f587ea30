pub mod Sizes
pub mod Channels
pub mod Step
pub mod Fresh
pub mod Runs
pub mod Tells
pub mod Ready
