pub mod Cases
pub mod Meaning
pub mod Fabrics
pub mod Determined
