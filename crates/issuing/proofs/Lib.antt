-- What the proofs of the functions share.
mod Under
mod Levels
mod Above
mod Asked
mod Written
