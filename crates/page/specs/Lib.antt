-- The definitions that the contracts of `page` cite, and the claim on them.
pub mod Lines
pub mod Page
