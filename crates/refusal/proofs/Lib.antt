pub mod Determined
pub mod Verdicts
