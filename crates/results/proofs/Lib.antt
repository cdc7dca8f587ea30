pub mod Placed
pub mod Meaning
pub mod Determined
