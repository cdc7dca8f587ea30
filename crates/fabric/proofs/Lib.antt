pub mod Labels
pub mod Rows
pub mod Arrays
pub mod Hops
pub mod Routes
pub mod Making
pub mod Parts
