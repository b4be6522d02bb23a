pub mod Capacity
pub mod Cuts
pub mod Flats
pub mod Placed
pub mod Running
pub mod Scanned
pub mod Steps
pub mod Whole
