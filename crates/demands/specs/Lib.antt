pub mod Calls
pub mod Rules
pub mod Tries
