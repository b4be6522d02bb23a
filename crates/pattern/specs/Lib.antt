-- The lists of calls, demand 3 as one claim, and which calls are accepted.
pub mod Accepts
pub mod Calls
pub mod Demand
