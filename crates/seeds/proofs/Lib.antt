pub mod Doubling
pub mod Places
