pub mod HeldLemmas
pub mod LogLemmas
pub mod MoveLemmas
pub mod JoinLemmas
pub mod WholeLemmas
pub mod SizeLemmas
