pub mod Networks
pub mod Right
