-- The definitions that the contracts of `frame` cite.
pub mod Agreement
pub mod Builder
pub mod Frame
pub mod Read
pub mod Word
