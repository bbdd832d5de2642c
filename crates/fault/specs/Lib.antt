-- Causes of refusal: their numbers, the lowest of some, and what a refusal leaves.
pub mod Numbers
pub mod Lowest
pub mod Memory
