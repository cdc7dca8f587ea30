pub mod Order
pub mod InPlace
