pub mod IndexLine
pub mod IndexText
pub mod Loads
pub mod RowGrammar
pub mod FaultLaws
pub mod ListLaws
pub mod laws
pub mod examples
