-- The definitions that the contracts of `laws` cite, and the claim that no part of an item is handed out.
pub mod Bytes
pub mod Copied
pub mod Lists
pub mod Whole
