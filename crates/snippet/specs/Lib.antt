-- The definitions that the contracts of `snippet` cite.
pub mod Point
pub mod Snippet
