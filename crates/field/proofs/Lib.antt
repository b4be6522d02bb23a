-- The laws of fields: for the proofs here, for those of the register crates, and for whoever cites a register's contract.
pub mod Shifts
pub mod Own
pub mod Named
pub mod Methods
