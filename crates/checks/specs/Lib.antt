-- The definitions that the contracts of `checks` cite.
pub mod Blames
pub mod Checks
pub mod InRange
