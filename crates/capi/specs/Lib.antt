-- The claim that the answers of `capi` do not mislead.
pub mod Telling
