-- The definitions that the contracts of `registers` and of the register crates cite.
pub mod Table
