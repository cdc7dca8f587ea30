pub mod Part
pub mod Room
pub mod Exists
pub mod Choice
pub mod Stages
pub mod Labels
pub mod Climb
pub mod Width
