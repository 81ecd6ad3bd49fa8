-- Worked rows: what the definitions of `specs/` come to on inputs that a reader can work by hand.
pub mod Call
pub mod Counted
pub mod Journal
pub mod Line
pub mod Told
