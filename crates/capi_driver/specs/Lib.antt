-- The definitions that the contracts of `capi_driver` cite, and the claim that its words give back their parts.
pub mod Telling
pub mod Words
