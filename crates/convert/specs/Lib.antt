-- The definitions that the contracts of `convert` cite.
pub mod Convert
pub mod Trim
