-- The file of starts: its format, which starts are kept of it, and how far it was read.
pub mod Format
pub mod Kept
pub mod Levels
pub mod Window
pub mod Reading
pub mod Drawn
