pub mod Links
pub mod Search
