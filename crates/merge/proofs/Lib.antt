mod Keeping
mod Raising
mod FrameKept
mod Answered
mod Lengths
mod Admits
mod Plays
mod Refused
pub mod Merging
