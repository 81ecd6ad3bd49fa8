pub mod Latin1Lemmas
