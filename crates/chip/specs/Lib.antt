-- The chip's memory under uploads that are cut, and the claims on it.
pub mod Writes
pub mod Runs
pub mod Repeated
pub mod General
pub mod Between
