pub mod Candidate
pub mod Labels
