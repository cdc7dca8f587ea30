pub mod Chosen
pub mod InPlace
pub mod Determined
