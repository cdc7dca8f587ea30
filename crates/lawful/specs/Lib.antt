pub mod Turn
pub mod Path
pub mod Entry
