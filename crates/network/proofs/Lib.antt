pub mod Table
pub mod Visit
pub mod Links
pub mod Meaning
pub mod Determined
