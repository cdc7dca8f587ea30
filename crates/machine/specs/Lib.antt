pub mod InPlace
pub mod Lent
