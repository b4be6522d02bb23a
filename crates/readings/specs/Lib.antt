-- The definitions that the contracts and the theorem of `readings` cite.
pub mod InPlace
pub mod Laying
pub mod Lists
pub mod Readings
pub mod Telling
