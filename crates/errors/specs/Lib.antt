-- The definitions that the contracts of `errors` cite.
pub mod Number
pub mod Packed
pub mod Told
