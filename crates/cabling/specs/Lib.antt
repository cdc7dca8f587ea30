pub mod Cabling
pub mod Faults
pub mod Verdicts
