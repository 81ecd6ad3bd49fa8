-- How the writers take what a conversion has still to write for the input to come, which is a list of items.
use Rattle.std.specs.Prelude.{◌≡◌, ℕ, ◌+◌, List, [], ◌∷◌, ◌++◌, Bool, true}
use Rattle.encoding_mem.specs.Items.{Item, Byte, MalformedAt, LostAt}
use Rattle.recode.specs.Policy.{written_under}
use Rattle.recode.specs.Devices.{Written, Wrote}
use Rattle.recode.specs.TaggedByte.{TaggedByte, IsPrefix, tagged}
use Rattle.recode.specs.declared.job.Fault.{Fault}
use Rattle.recode.specs.declared.job.Fault.TheVariants.{Unmappable}
use Rattle.recode.specs.declared.job.Policy.{Policy}
use Rattle.recode.specs.declared.counts.Counts.{Counts}

-- how many of the items are lines of malformed sequences
abbrev pub bad_line_count : List Item → ℕ
bad_line_count [] = 0
bad_line_count (Byte b ∷ t) = bad_line_count t
bad_line_count (MalformedAt offset size ∷ t) = 1 + bad_line_count t
bad_line_count (LostAt index scalar ∷ t) = bad_line_count t

-- how many of the items are lines of lost characters
abbrev pub lost_line_count : List Item → ℕ
lost_line_count [] = 0
lost_line_count (Byte b ∷ t) = lost_line_count t
lost_line_count (MalformedAt offset size ∷ t) = lost_line_count t
lost_line_count (LostAt index scalar ∷ t) = 1 + lost_line_count t

-- the lines of the items are counted
pub record AreCounted (c c' : Counts) (written_items : List Item) : Type 0 where
  pub bad : c'.bad ≡ c.bad + bad_line_count written_items
  pub lost : c'.lost ≡ c.lost + lost_line_count written_items

-- if the policy stops at a lost character, there is none among these
abbrev pub IsSpared : Policy → List Item → Type 0
IsSpared p items = p ≡ Policy.Stop → lost_line_count items ≡ 0

-- The writers took these items, which are counted and of which none stops the conversion, and what was still to be
-- written is these, then what is still to be written now.
pub record WritesItems (before after : Written) (c c' : Counts) (p : Policy) (to_write to_write' : List Item) : Type 0 where
  pub written_items : List Item
  pub wrote : Wrote before after (tagged written_items)
  pub counted : AreCounted c c' written_items
  pub spared : IsSpared p written_items
  pub equals : to_write ≡ written_items ++ to_write'

-- The bytes that were taken are all that is written, and the last of it is the line of this lost character: there the
-- policy stopped.
pub record StopsAtLoss (index scalar : ℕ) (taken : List TaggedByte) (written : List Item) : Type 0 where
  pub items : List Item
  pub last : written ≡ items ++ (LostAt index scalar ∷ [])
  pub whole : taken ≡ tagged written

-- if the fault is `Unmappable`, all that is written was taken, and it ends in the line of that lost character
abbrev pub IsStop : Fault → List TaggedByte → List Item → Type 0
IsStop f taken written = (index scalar : ℕ) → f ≡ Unmappable index scalar → StopsAtLoss index scalar taken written

-- what a fault leaves: these bytes are a prefix of what was still to be written under the policy, and all of it if that
-- stopped the conversion, which `Stop` alone does
pub record IsLeft (p : Policy) (f : Fault) (taken : List TaggedByte) (to_write : List Item) : Type 0 where
  pub prefix : IsPrefix taken (tagged (written_under p to_write))
  pub policy : (index scalar : ℕ) → f ≡ Unmappable index scalar → p ≡ Policy.Stop
  pub stopped : IsStop f taken (written_under p to_write)

-- the writers took so much of what was still to be written
pub record WritesPrefix (before after : Written) (p : Policy) (f : Fault) (to_write : List Item) : Type 0 where
  pub taken : List TaggedByte
  pub wrote : Wrote before after taken
  pub left : IsLeft p f taken to_write

-- The writers took items, which are counted and stop nothing. Whatever bytes follow, none if the
-- input ends, what was still to be written is these items, then what is still to be written now.
pub record WritesItemsFor (before after : Written) (c c' : Counts) (p : Policy) (last : Bool) (to_write to_write' : List ℕ → List Item) : Type 0 where
  pub written_items : List Item
  pub wrote : Wrote before after (tagged written_items)
  pub counted : AreCounted c c' written_items
  pub spared : IsSpared p written_items
  pub equals : (r : List ℕ) → (last ≡ true → r ≡ []) → to_write r ≡ written_items ++ to_write' r

-- The writers took bytes up to a fault. Whatever bytes follow, none if the input ends, they are a
-- prefix of what was still to be written under the policy, and all of it if the policy stopped it.
pub record WritesPrefixFor (before after : Written) (p : Policy) (f : Fault) (last : Bool) (to_write : List ℕ → List Item) : Type 0 where
  pub taken : List TaggedByte
  pub wrote : Wrote before after taken
  pub left : (r : List ℕ) → (last ≡ true → r ≡ []) → IsLeft p f taken (to_write r)
