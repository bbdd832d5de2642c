-- What the proofs of the functions share, and what those of other crates may cite.
pub mod Asked
pub mod Derived
pub mod Walks
pub mod Steps
pub mod Downs
mod Keyed
mod Sizes
mod Exact
