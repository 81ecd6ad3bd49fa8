pub mod LabelLemmas
