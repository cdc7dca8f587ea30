pub mod Truth
pub mod Sum
pub mod Search
pub mod Lowest
pub mod Sets
pub mod Words
pub mod Lists
