-- The definitions that the contracts of `pool` cite.
pub mod Kept
