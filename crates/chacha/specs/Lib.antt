-- RFC 8439's block function, examples that the RFC prints, and a state as rows.
pub mod Examples
pub mod Rfc8439
pub mod Rows
