pub mod Route
pub mod Follow
