pub mod Following
pub mod Cabled
pub mod Cases
pub mod Meaning
pub mod Determined
