-- The definitions that the contracts of `driver` cite, and its theorems.
pub mod Operations
pub mod Theorems
pub mod History
