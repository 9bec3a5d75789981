-- The tells are those by the two places.
use Rattle.std.proofs.Common.{List, subst, sym}
use Rattle.tells.specs.declared.tell.Tell.{Tell}
use Rattle.tells.specs.Hearing.{MayHearAll, HearsAll}
use Rattle.set_tells.proofs.InSetTells.{in_set_by_places}
use Rattle.set_tells.proofs.in_set.visit_in_set.Goals as goal

pub tell_at-requires-clause-hearer : goal.tell_at-requires-clause-hearer
tell_at-requires-clause-hearer g c =
    let P : List Tell → Type 0 = λ ts. MayHearAll g.H.Hear.can_hear g.H.Hear.hears c.args.h.now ts in
    subst P (in_set_by_places c.args.lit c.args.x c.args.ranges.now c.args.b.now _ _ c.requires.ranges c.requires.proper c.count_upto-count.ensures.bound c.first_from-first.ensures.point c.count_upto-count.ensures.point) c.requires.hearer

pub returns : goal.returns
returns g c =
    let P : List Tell → Type 0 = λ ts. HearsAll g.H.Hear.hears c.args.h.now ts c.tell_at.new.h in
    subst P (sym (in_set_by_places c.args.lit c.args.x c.args.ranges.now c.args.b.now _ _ c.requires.ranges c.requires.proper c.count_upto-count.ensures.bound c.first_from-first.ensures.point c.count_upto-count.ensures.point)) c.tell_at.ensures
