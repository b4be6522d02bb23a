-- The definitions that the contracts of `outcome` cite.
pub mod Outcome
