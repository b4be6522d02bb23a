pub mod Answers
pub mod Copies
pub mod Lists
pub mod Maps
pub mod Tests
pub mod Whole
