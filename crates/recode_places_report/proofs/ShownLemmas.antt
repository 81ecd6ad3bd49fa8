-- A text that goes on by one character.
use Rattle.std.proofs.Common.{◌≡◌, ◌∙◌, ℕ, List, [], ◌∷◌, ◌++◌, ap, sym, append_assoc, append-nil}
use Rattle.recode_places_report.specs.Shown.{shown_as, shown_text}
use Rattle.recode_places_report.specs.declared.cell.Cell.TheVariants.{Character}

pub shown_text-next : (t : List ℕ) (c : ℕ) → shown_text (t ++ (c ∷ [])) ≡ shown_text t ++ shown_as (Character c)
shown_text-next [] c = append-nil (shown_as (Character c))
shown_text-next (b ∷ t) c = ap (λ x. shown_as (Character b) ++ x) (shown_text-next t c) ∙ sym (append_assoc (shown_as (Character b)) (shown_text t) (shown_as (Character c)))
