pub mod Sheet
pub mod Faults
pub mod Verdicts
pub mod Promises
pub mod Held
