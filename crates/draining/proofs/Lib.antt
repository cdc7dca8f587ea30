pub mod Picks
pub mod Answers
pub mod Running
pub mod Meaning
pub mod Determined
