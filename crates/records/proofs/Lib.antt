mod Fresh
pub mod Determined
