pub mod Tables
pub mod Lines
pub mod Cases
pub mod Determined
