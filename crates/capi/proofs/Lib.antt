pub mod Words
pub mod Telling
