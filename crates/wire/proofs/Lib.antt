-- What the proofs of the functions share, and what those of other crates may cite.
pub mod Bytes
pub mod Stepping
pub mod Tested
mod Listed
mod Inverse
mod Labelled
mod Gathered
pub mod Entries
pub mod Held
pub mod Sent
