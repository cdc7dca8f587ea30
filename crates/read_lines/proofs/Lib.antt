pub mod Lines
pub mod Numbers
pub mod Sizes
pub mod Front
pub mod Printed
pub mod Determined
