pub mod Pieces
pub mod Determined
