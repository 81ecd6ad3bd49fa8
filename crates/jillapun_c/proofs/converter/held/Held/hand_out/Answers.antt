use Rattle.std.proofs.Common.{◌≡◌, ◌-◌, ◌≤◌, List, ℕ, ap, arith, drop, length, length-take, subst, sym, take}
use Rattle.jillapun_c.specs.Room.{FillsRoom}
use Rattle.jillapun_c.proofs.RoomLemmas.{shifted}
use Rattle.jillapun_c.proofs.converter.held.Held.hand_out.Goals as goal

pub copy_within-requires-clause-start_le_end : goal.copy_within-requires-clause-start_le_end
copy_within-requires-clause-start_le_end c = omega (arith, c.fill-to.ensures.within, length-take c.self.inside.len c.self.inside.bytes)

pub overflow_sub-self : goal.overflow_sub-self
overflow_sub-self c = omega (arith, c.fill-to.ensures.within, length-take c.self.inside.len c.self.inside.bytes)

pub returns-clause-fills : goal.returns-clause-fills
returns-clause-fills c =
    let h = c.self.inside in
    let given = c.fill-to.result - c.args.at in
    let small : given ≤ h.len = omega (arith, c.fill-to.ensures.within, length-take h.len h.bytes) in
    let rest : take (h.len - given) c.copy_within.new.self ≡ drop given (take h.len h.bytes) =
    subst (λ (x : List ℕ). take (h.len - given) x ≡ drop given (take h.len h.bytes)) (sym c.copy_within.ensures.after) (shifted h.bytes given h.len small (omega (arith, c.self.invariant, c.self.told))) in
    subst (λ (x : List ℕ). FillsRoom x (take (h.len - given) c.copy_within.new.self) c.args.room.now c.fill-to.new.room c.args.at c.fill-to.result) c.self.view_is
    (subst (λ (x : List ℕ). FillsRoom (take h.len h.bytes) x c.args.room.now c.fill-to.new.room c.args.at c.fill-to.result) (sym rest) c.fill-to.ensures.fills)

pub returns-clause-small : goal.returns-clause-small
returns-clause-small c = omega (arith, ap length c.self.view_is, length-take c.self.inside.len c.self.inside.bytes, c.self.invariant)
