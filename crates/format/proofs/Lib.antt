pub mod Contents
pub mod Order
pub mod Written
pub mod Bodies
pub mod First
pub mod Determined
