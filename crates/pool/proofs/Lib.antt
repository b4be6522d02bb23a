pub mod Keeping
pub mod Lists
