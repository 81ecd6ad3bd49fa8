-- What a policy writes for a character without bytes, and when it ends a conversion.
use Rattle.std.specs.Prelude.{List, [], ◌∷◌, Option, Some, None}
use Rattle.encoding_mem.specs.Items.{Item, LostAt}
use Rattle.encoding_mem.specs.declared.codec.reference.Reference.{Reference}
use Rattle.recode.specs.declared.job.Policy.{Policy}

-- the form of the reference that is written, or none is
abbrev pub reference_of : Policy → Option Reference
reference_of Policy.Decimal = Some Reference.Decimal
reference_of Policy.Hexadecimal = Some Reference.Hexadecimal
reference_of Policy.Stop = None

-- the form of a policy's references: decimal under `Stop`, which writes none
abbrev pub reference_form : Policy → Reference
reference_form Policy.Hexadecimal = Reference.Hexadecimal
reference_form _ = Reference.Decimal

-- the items up to the first line of a lost character, with it
abbrev pub up_to_loss : List Item → List Item
up_to_loss [] = []
up_to_loss (LostAt index scalar ∷ t) = LostAt index scalar ∷ []
up_to_loss (item ∷ t) = item ∷ up_to_loss t

-- what is written of some items under a policy: all, or those up to the first lost character
abbrev pub written_under : Policy → List Item → List Item
written_under Policy.Stop items = up_to_loss items
written_under _ items = items
