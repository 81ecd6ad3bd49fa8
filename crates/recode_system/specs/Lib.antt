pub mod CommandLine
pub mod examples
