-- The definition that the contracts of `vectors_bytes` cite.
pub mod Lines
