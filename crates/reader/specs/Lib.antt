-- The definitions that the contracts and the theorem of `reader` cite.
pub mod Flat
pub mod Items
pub mod Places
pub mod Reading
pub mod Told
pub mod Walk
