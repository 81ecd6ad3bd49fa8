pub mod OwnTextsLemmas
pub mod CallsLemmas
pub mod FirstFaultLemmas
pub mod SessionStepsLemmas
pub mod PartRunsLemmas
