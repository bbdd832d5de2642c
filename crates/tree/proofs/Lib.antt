-- What the proofs of the functions share, and what those of other crates may cite.
pub mod Tests
pub mod Up
pub mod Exact
pub mod Few
pub mod Neat
mod Needed
pub mod Covers
pub mod Judged
mod Stand
pub mod Slices
mod Sides
pub mod Memory
mod Branches
mod Forks
mod Whole
mod Walked
pub mod Hanging
