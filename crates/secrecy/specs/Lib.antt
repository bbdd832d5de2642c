-- The model, from terms to the air and what can be worked out, over terms and then over bytes. The main theorems are in Promise and Blind.
pub mod Lists
pub mod Terms
pub mod Held
pub mod Air
pub mod Gets
pub mod Promise
pub mod Cases
pub mod Worlds
pub mod Blind
