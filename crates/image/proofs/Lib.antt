pub mod Faults
pub mod Agreeing
pub mod Sizes
pub mod Meaning
pub mod Images
