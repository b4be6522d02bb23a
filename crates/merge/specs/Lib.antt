-- The definitions that the contract of `merge` cites, and the claim Merge.
pub mod InPlace
pub mod Merge
pub mod Merged
