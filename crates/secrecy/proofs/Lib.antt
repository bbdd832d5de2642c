-- What the proofs of the functions share, and what those of other crates may cite.
pub mod Lists
pub mod Made
pub mod Labels
pub mod Way
pub mod Held
pub mod Air
mod Sum
pub mod Hiding
pub mod Exact
pub mod Shown
pub mod Cases
mod Bytes
pub mod Header
mod Change
mod View
mod Blind
pub mod Room
pub mod Found
pub mod ShownBytes
