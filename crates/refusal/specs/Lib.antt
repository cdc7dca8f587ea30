pub mod Number
pub mod Verdicts
