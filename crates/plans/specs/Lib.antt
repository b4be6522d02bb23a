-- The definitions that the contracts of `plans` cite, and what holds of accepted settings.
pub mod Fields
pub mod Configure
pub mod Accepted
pub mod Trigger
