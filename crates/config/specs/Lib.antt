-- The definitions that the contracts of `config` cite.
pub mod Codes
