-- What the proofs of the functions share, and what those of other crates may cite.
mod Windows
mod Levels
pub mod Members
mod Pushed
mod Filled
mod Begun
mod Finished
mod Looked
