-- A session, as its callers know it.
use Rattle.recode.specs.Session.{View}
use Rattle.recode.specs.contracts.session.SessionViewed.TheImpl.{ghosts}
use Rattle.recode.specs.declared.session.Session.{Session}

-- what a `Session` is to its callers: its job, where the conversion stands, and its phase
abbrev pub view_of : Session → View
view_of s = ghosts.view s
