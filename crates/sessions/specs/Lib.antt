-- The definitions that the contracts of `sessions` cite.
pub mod Sessions
