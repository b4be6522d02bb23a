-- The definitions that the contracts of `da728x` cite.
pub mod Record
