pub mod JournalLemmas
pub mod LineLemmas
pub mod HistorySteps
pub mod JournalSteps
