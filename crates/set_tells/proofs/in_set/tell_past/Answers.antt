-- One range gives its tells.
use Rattle.std.proofs.Common.{List, pos, refl, subst, sym, ap}
use Rattle.std.specs.List.{flat_map}
use Rattle.interval.specs.Boxes.{low_of}
use Rattle.tells.specs.declared.tell.Tell.{Tell}
use Rattle.tells.specs.Hearing.{MayHearAll, HearsAll}
use Rattle.set_tells.specs.InSet.{past_tells}
use Rattle.set_tells.proofs.ListPlaces.{at_yes, at_no, one_mapped}
use Rattle.set_tells.proofs.in_set.tell_past.Goals as goal

pub tell_past_range-requires-clause-hearer : goal.tell_past_range-requires-clause-hearer
tell_past_range-requires-clause-hearer g c =
    let P : List Tell → Type 0 = λ ts. MayHearAll g.H.Hear.can_hear g.H.Hear.hears c.args.h.now ts in
    subst P (one_mapped (past_tells c.args.x (low_of c.args.b.now c.args.x)) _ _ (at_yes c.args.ranges.now c.args.place (pos 0, pos 0) c.if-place-ranges.true)) c.requires.hearer

pub returns-then-place-ranges : goal.returns-then-place-ranges
returns-then-place-ranges g c =
    let P : List Tell → Type 0 = λ ts. HearsAll g.H.Hear.hears c.args.h.now ts c.tell_past_range.new.h in
    subst P (sym (one_mapped (past_tells c.args.x (low_of c.args.b.now c.args.x)) _ _ (at_yes c.args.ranges.now c.args.place (pos 0, pos 0) c.if-place-ranges.true))) c.tell_past_range.ensures

pub returns-else-place-ranges : goal.returns-else-place-ranges
returns-else-place-ranges g c =
    let P : List Tell → Type 0 = λ ts. HearsAll g.H.Hear.hears c.args.h.now ts c.args.h.now in
    subst P (sym (ap (flat_map (past_tells c.args.x (low_of c.args.b.now c.args.x))) (at_no c.args.ranges.now c.args.place c.if-place-ranges.false))) refl
