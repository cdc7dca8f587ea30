pub mod Turns
pub mod Adding
pub mod Sift
pub mod Width
