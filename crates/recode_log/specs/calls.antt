-- What the layers of this crate keep for one another.
pub mod CallCode
pub mod EntryCode
