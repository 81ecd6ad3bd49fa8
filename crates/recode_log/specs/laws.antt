-- Theorems about the definitions of `specs/`, for the crates above.
pub mod Calls
pub mod Counts
pub mod Journal
pub mod Told
