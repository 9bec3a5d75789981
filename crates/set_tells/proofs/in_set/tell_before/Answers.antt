-- One range gives its tells.
use Rattle.std.proofs.Common.{List, pos, refl, subst, sym, ap}
use Rattle.std.specs.List.{flat_map}
use Rattle.interval.specs.Boxes.{high_of}
use Rattle.tells.specs.declared.tell.Tell.{Tell}
use Rattle.tells.specs.Hearing.{MayHearAll, HearsAll}
use Rattle.set_tells.specs.InSet.{before_tells}
use Rattle.set_tells.proofs.ListPlaces.{last_yes, last_no, one_mapped}
use Rattle.set_tells.proofs.in_set.tell_before.Goals as goal

pub tell_before_range-requires-clause-hearer : goal.tell_before_range-requires-clause-hearer
tell_before_range-requires-clause-hearer g c =
    let P : List Tell → Type 0 = λ ts. MayHearAll g.H.Hear.can_hear g.H.Hear.hears c.args.h.now ts in
    subst P (one_mapped (before_tells c.args.x (high_of c.args.b.now c.args.x)) _ _ (last_yes c.args.ranges.now c.args.count (pos 0, pos 0) c.if-count-gt0.true c.requires.count)) c.requires.hearer

pub returns-then-count-gt0 : goal.returns-then-count-gt0
returns-then-count-gt0 g c =
    let P : List Tell → Type 0 = λ ts. HearsAll g.H.Hear.hears c.args.h.now ts c.tell_before_range.new.h in
    subst P (sym (one_mapped (before_tells c.args.x (high_of c.args.b.now c.args.x)) _ _ (last_yes c.args.ranges.now c.args.count (pos 0, pos 0) c.if-count-gt0.true c.requires.count))) c.tell_before_range.ensures

pub returns-else-count-gt0 : goal.returns-else-count-gt0
returns-else-count-gt0 g c =
    let P : List Tell → Type 0 = λ ts. HearsAll g.H.Hear.hears c.args.h.now ts c.args.h.now in
    subst P (sym (ap (flat_map (before_tells c.args.x (high_of c.args.b.now c.args.x))) (last_no c.args.ranges.now c.args.count c.if-count-gt0.false))) refl
