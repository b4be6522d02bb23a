pub mod Codes
pub mod Fitting
pub mod Standing
pub mod Told
pub mod Words
pub mod Telling
pub mod Items
pub mod InPlace
