-- What calls and layers promise one another: a reader of the theorems need not read it.
pub mod Walks
pub mod Ready
pub mod LogViews
pub mod FatesViews
