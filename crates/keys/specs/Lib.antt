-- What the code asks of the block function, and of which terms its answers are the bytes.
pub mod Asking
pub mod Drawn
pub mod Down
pub mod Promise
pub mod Log
