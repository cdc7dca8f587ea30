pub mod Whole
pub mod Fitted
pub mod Meet
pub mod Determined
