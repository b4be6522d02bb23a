-- The definitions that the contracts of `memory` cite.
pub mod Image
pub mod Laid
pub mod Memory
pub mod Timebase
