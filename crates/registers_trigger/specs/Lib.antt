-- The definitions that the contracts of `Gpi` cite.
pub mod Gpi
