-- What the proofs of the functions share.
mod Xors
mod Covering
mod Filling
mod Counted
mod Parts
mod Whole
