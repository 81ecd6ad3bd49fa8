-- Words on `Latin1Bytes`.
use Rattle.std.specs.Prelude.{ℕ, List}
use Rattle.encoding_mem.specs.declared.mem.latin1_texts.Latin1Bytes.{Latin1Bytes}
use Rattle.encoding_mem.specs.declared.mem.latin1_texts.Latin1Bytes.TheVariants.{Borrowed, Owned}

-- the bytes of a `Latin1Bytes`, be they borrowed or owned
abbrev pub latin1_bytes : Latin1Bytes → List ℕ
latin1_bytes (Borrowed bytes) = bytes.now
latin1_bytes (Owned bytes) = bytes.items

-- the bytes of a `Latin1Bytes` are borrowed from a text, not in memory of their own
abbrev pub AreBorrowed : Latin1Bytes → Type 0
AreBorrowed (Borrowed bytes) = Unit {0}
AreBorrowed (Owned bytes) = ⊥
