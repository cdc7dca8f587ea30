pub mod Laid
pub mod Lays
pub mod Lent
