-- The definitions that the contracts of `assemble` and `capi` cite (Lists, Items; privately Flat, Holding), and the claims
-- WholeItems, Assembled, Strict, UsedUp, Example.
pub mod Example
pub mod Flat
pub mod Holding
pub mod Items
pub mod Lists
pub mod Refusal
pub mod Strict
pub mod UsedUp
