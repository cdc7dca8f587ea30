pub mod Whole
pub mod Printed
pub mod Determined
