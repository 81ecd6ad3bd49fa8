-- Theorems that callers and other crates cite.
pub mod Items
pub mod Calls
pub mod Parts
pub mod SavedConverters
pub mod KeptIndexes
