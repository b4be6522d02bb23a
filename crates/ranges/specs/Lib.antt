-- The definitions that the contracts of `ranges` cite, and the claim on them.
pub mod Ranges
pub mod Search
