-- What is written for a receiver.
pub mod Issued
pub mod Served
pub mod Gathered
