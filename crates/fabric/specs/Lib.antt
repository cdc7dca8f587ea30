pub mod Fabric
pub mod Rows
