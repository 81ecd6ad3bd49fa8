pub mod Labels
pub mod laws
pub mod examples
