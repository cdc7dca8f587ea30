pub mod Row
pub mod Hop
pub mod Tabled
