pub mod Cases
pub mod Meaning
pub mod Determined
