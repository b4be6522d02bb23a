-- The definitions that the contracts of `field` and of the register crates cite.
pub mod Field
pub mod Layout
