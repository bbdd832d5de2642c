-- What the proofs of the functions share.
mod Examples
mod Rows
