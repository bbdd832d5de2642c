-- The tree and its parts, covers, and what hangs off a receiver's way. The main theorem is in Promise.
pub mod Nodes
pub mod Receivers
pub mod Parts
pub mod Cover
pub mod Promise
pub mod Ways
pub mod Walks
pub mod Written
pub mod Numbers
