pub mod Start
pub mod Verdicts
