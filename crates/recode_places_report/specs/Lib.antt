pub mod Shown
pub mod examples
