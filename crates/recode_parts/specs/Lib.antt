pub mod Fault
pub mod Joins
pub mod Summaries
pub mod examples
