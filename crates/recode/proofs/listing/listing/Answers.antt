use Rattle.std.proofs.Common.{◌-◌, length, refl, take}
use Rattle.recode.specs.declared.listing.TheConstants.{LISTING}
use Rattle.recode.proofs.listing.listing.Goals as goal

pub returns : goal.returns
returns c = (take (length LISTING.now - 1) LISTING.now, refl)
