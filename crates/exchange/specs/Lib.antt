-- The definitions that the contracts of `exchange` cite, and its theorem.
pub mod Steps
pub mod Stage
pub mod State
pub mod Turn
pub mod Session
