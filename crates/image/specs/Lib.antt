pub mod Image
pub mod Faults
pub mod Verdicts
pub mod Longest
