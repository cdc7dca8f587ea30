pub mod Cases
pub mod Determined
