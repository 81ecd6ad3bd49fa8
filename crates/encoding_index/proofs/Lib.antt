pub mod DigitLemmas
pub mod LineLemmas
pub mod StartLemmas
pub mod FaultLemmas
pub mod RowLemmas
pub mod LoadLemmas
