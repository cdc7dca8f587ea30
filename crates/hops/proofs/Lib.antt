pub mod Lookup
pub mod Cases
pub mod Leads
pub mod Meaning
pub mod Determined
