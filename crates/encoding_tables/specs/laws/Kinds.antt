-- Lists by the kinds' slots.
use Rattle.std.proofs.Common.{◌≡◌, ◌≢◌, ◌⊎◌, ℕ, ◌<◌, List, [], ◌∷◌, length, map, sym, ◌∙◌, ap, refl, Option, None, Some, get_or, Bool, true, false, inl, inr}
use Rattle.std.specs.Prelude.{IfSome}
use Rattle.std.specs.Coded.{Coded, code_by, coded×, coded_ℕ, coded_list, coded_option}
use Rattle.std.proofs.lemmas.List.{get_or-set_same, get_or-set_other}
use Rattle.std.proofs.Math.ListN.{set}
use Rattle.std.proofs.lemmas.Bool.{cases_eq}
use Rattle.encoding_tables.specs.TableFaults.{flat_fault}
use Rattle.encoding_tables.specs.IndexLists.{IndexLists, AreAcceptedTables}
use Rattle.encoding_tables.specs.calls.Slots.{slot_of, flat_in, lists_in}
use Rattle.encoding_tables.specs.declared.table_fault.TableFault.TheVariants.{Present}
use Rattle.encoding_tables.specs.declared.index_kind.IndexKind.{IndexKind}
-- Written by tools/generate_encodings.py from tools/encodings.toml; do not edit.
use Rattle.encoding_tables.specs.declared.index_kind.IndexKind.TheVariants.{Ibm866, Iso8859_2, Iso8859_3, Iso8859_4, Iso8859_5, Iso8859_6, Iso8859_7, Iso8859_8, Iso8859_10, Iso8859_13, Iso8859_14, Iso8859_15, Iso8859_16, Koi8R, Koi8U, Macintosh, Windows874, Windows1250, Windows1251, Windows1252, Windows1253, Windows1254, Windows1255, Windows1256, Windows1257, Windows1258, XMacCyrillic, Big5, EucKr, Gb18030, Gb18030Ranges, Jis0208, Jis0212, Iso2022JpKatakana}

-- end

-- all of them, in the order of their slots
-- Written by tools/generate_encodings.py from tools/encodings.toml; do not edit.
unfoldable pub all_kinds : List IndexKind
all_kinds = Ibm866 ∷ Iso8859_2 ∷ Iso8859_3 ∷ Iso8859_4 ∷ Iso8859_5 ∷ Iso8859_6 ∷ Iso8859_7 ∷ Iso8859_8 ∷ Iso8859_10 ∷ Iso8859_13 ∷ Iso8859_14 ∷ Iso8859_15 ∷ Iso8859_16 ∷ Koi8R ∷ Koi8U ∷ Macintosh ∷ Windows874 ∷ Windows1250 ∷ Windows1251 ∷ Windows1252 ∷ Windows1253 ∷ Windows1254 ∷ Windows1255 ∷ Windows1256 ∷ Windows1257 ∷ Windows1258 ∷ XMacCyrillic ∷ Big5 ∷ EucKr ∷ Gb18030 ∷ Gb18030Ranges ∷ Jis0208 ∷ Jis0212 ∷ Iso2022JpKatakana ∷ []

-- end

again : (k : IndexKind) → get_or all_kinds (slot_of k) Ibm866 ≡ k
unfolding all_kinds
again Ibm866 = refl
again _ = refl

same_slot : (a b : IndexKind) → slot_of a ≡ slot_of b → a ≡ b
same_slot a b e = sym (again a) ∙ ap (λ n. get_or all_kinds n Ibm866) e ∙ again b

-- two kinds are one, or they are not
pub same_or_apart : (a b : IndexKind) → (a ≡ b) ⊎ (a ≢ b)
same_or_apart a b = elim (cases_eq (slot_of a) (slot_of b)) [
  | inl same ↦ inl (same_slot a b same)
  | inr apart ↦ inr (λ e. apart (ap slot_of e))
]

-- the lists in the order of the slots are the lists of the kinds
pub in_order : (flats : IndexKind → Option (List ℕ)) (kind : IndexKind) → flat_in (map flats all_kinds) kind ≡ flats kind
unfolding all_kinds
in_order flats Ibm866 = refl
in_order flats _ = refl

-- what tables hold, as the lists in the order of the slots and the rows: the prover distinguishes values by this
abbrev pub index_lists_code : Coded IndexLists
index_lists_code =
    code_by (List (Option (List ℕ)) × Option (List (ℕ × ℕ))) (coded× (coded_list (coded_option (coded_list coded_ℕ))) (coded_option (coded_list (coded× coded_ℕ coded_ℕ))))
    (λ t. (map t.flats all_kinds, t.rows)) (λ p. lists_in p.0 p.1) (λ t i. record { flats = λ kind. in_order t.flats kind i; rows = t.rows })

-- a list is put into the slot of its kind
pub put-same : (slots : List (Option (List ℕ))) (n : ℕ) (x : Option (List ℕ)) (kind : IndexKind) → n ≡ slot_of kind → n < length slots → flat_in (set slots n x) kind ≡ x
put-same slots n x kind is within = rw (← is) (get_or-set_same slots n x None within)

pub put-other : (slots : List (Option (List ℕ))) (n : ℕ) (x : Option (List ℕ)) (kind k : IndexKind) → n ≡ slot_of kind → k ≢ kind → flat_in (set slots n x) k ≡ flat_in slots k
put-other slots n x kind k is apart = rw is (get_or-set_other slots (slot_of kind) (slot_of k) x None (λ e. apart (same_slot k kind e)))

pub put-accepted : (slots : List (Option (List ℕ))) (rows : Option (List (ℕ × ℕ))) (n : ℕ) (kind : IndexKind) (flat : List ℕ) → n ≡ slot_of kind → n < length slots
    → flat_fault false kind flat ≡ None → AreAcceptedTables (lists_in slots rows) → AreAcceptedTables (lists_in (set slots n (Some flat)) rows)
put-accepted slots rows n kind flat is within well_formed before = (flats, before.1)
  where
    flats : (k : IndexKind) → IfSome (flat_in (set slots n (Some flat)) k) (λ flat. flat_fault false k flat ≡ None)
    flats k = elim (same_or_apart k kind) [
      | inl same ↦ rw (put-same slots n (Some flat) k (is ∙ ap slot_of (sym same)) within) (rw same well_formed)
      | inr apart ↦ rw (put-other slots n (Some flat) kind k is apart) (before.0 k)
    ]

pub no_fault : (there : Bool) (kind : IndexKind) (flat : List ℕ) → flat_fault there kind flat ≡ None → flat_fault false kind flat ≡ None
no_fault true kind flat e = absurd (clash e)
  where
    clash : Some Present ≡ None → ⊥
    clash h = cc
no_fault false kind flat e = e
