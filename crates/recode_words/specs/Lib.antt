pub mod Command
pub mod Given
pub mod Meaning
pub mod Request
pub mod examples
