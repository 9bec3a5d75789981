-- The tells of the terms and those of the last one are heard one after the other.
use Rattle.std.proofs.Common.{sym, subst, List}
use Rattle.std.specs.List.{zip, flat_map}
use Rattle.tells.specs.declared.tell.Tell.{Tell}
use Rattle.tells.specs.Hearing.{MayHearAll, HearsAll}
use Rattle.sum_tells.specs.Equality.{equal_tell}
use Rattle.tell_laws.proofs.HearingLaws.{may_first, may_rest, hears_both}
use Rattle.sum_tells.proofs.PartedLaws.{flat_map_last}
use Rattle.sum_tells.proofs.parted.tell_parted_equal.Goals as goal

pub tell_equal-requires-clause-hearer : goal.tell_equal-requires-clause-hearer
tell_equal-requires-clause-hearer g c =
    let told = equal_tell c.args.b.now c.args.equation.limit c.args.equation.sum.least c.args.equation.sum.greatest in
    let terms = zip c.args.coeffs.now c.args.vars.now in
    let P : List Tell → Type 0 = λ ts. MayHearAll g.H.Hear.can_hear g.H.Hear.hears c.args.h.now ts in
    may_first g.H.Hear.can_hear g.H.Hear.hears c.args.h.now (flat_map told terms) (told c.args.last)
    (subst P (flat_map_last told terms c.args.last) c.requires.hearer)

pub tell_last_equal-requires-clause-hearer : goal.tell_last_equal-requires-clause-hearer
tell_last_equal-requires-clause-hearer g c =
    let told = equal_tell c.args.b.now c.args.equation.limit c.args.equation.sum.least c.args.equation.sum.greatest in
    let terms = zip c.args.coeffs.now c.args.vars.now in
    let P : List Tell → Type 0 = λ ts. MayHearAll g.H.Hear.can_hear g.H.Hear.hears c.args.h.now ts in
    may_rest g.H.Hear.can_hear g.H.Hear.hears c.args.h.now c.tell_equal.new.h (flat_map told terms) (told c.args.last)
    (subst P (flat_map_last told terms c.args.last) c.requires.hearer) c.tell_equal.ensures

pub returns : goal.returns
returns g c =
    let told = equal_tell c.args.b.now c.args.equation.limit c.args.equation.sum.least c.args.equation.sum.greatest in
    let terms = zip c.args.coeffs.now c.args.vars.now in
    let P : List Tell → Type 0 = λ ts. HearsAll g.H.Hear.hears c.args.h.now ts c.tell_last_equal.new.h in
    subst P (sym (flat_map_last told terms c.args.last))
    (hears_both g.H.Hear.can_hear g.H.Hear.hears c.args.h.now c.tell_equal.new.h c.tell_last_equal.new.h (flat_map told terms) (told c.args.last) c.tell_equal.ensures c.tell_last_equal.ensures)
