-- The formats of files, and what is wrong with bytes that are none.
pub mod Words
pub mod Kinds
pub mod Head
pub mod Revocation
pub mod Entries
pub mod Labels
pub mod Sending
