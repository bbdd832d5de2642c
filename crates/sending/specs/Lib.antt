-- What is sent.
pub mod Sent
pub mod Headers
pub mod Answer
pub mod Secret
