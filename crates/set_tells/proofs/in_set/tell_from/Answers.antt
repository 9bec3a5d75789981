-- One range gives one tell.
use Rattle.std.proofs.Common.{List, pos, refl, subst, sym}
use Rattle.interval.specs.Boxes.{low_of}
use Rattle.tells.specs.declared.tell.Tell.{Tell}
use Rattle.tells.specs.Hearing.{MayHearAll, HearsAll}
use Rattle.set_tells.proofs.InSetTells.{from_at, from_nothing}
use Rattle.set_tells.proofs.in_set.tell_from.Goals as goal

pub hear-requires : goal.hear-requires
hear-requires g c =
    let P : List Tell → Type 0 = λ ts. MayHearAll g.H.Hear.can_hear g.H.Hear.hears c.args.h.now ts in
    let may = subst P (from_at c.args.x (low_of c.args.b.now c.args.x) c.args.ranges.now c.args.place (pos 0, pos 0) c.if-place-ranges.true) c.requires.hearer in
    let Q : Tell → Type 0 = g.H.Hear.can_hear c.args.h.now in
    subst Q (sym c.from_tell.ensures) may.0

pub returns-then-place-ranges : goal.returns-then-place-ranges
returns-then-place-ranges g c =
    let P : List Tell → Type 0 = λ ts. HearsAll g.H.Hear.hears c.args.h.now ts c.hear.new.self in
    let Q : Tell → Type 0 = λ t. g.H.Hear.hears c.args.h.now t c.hear.new.self in
    subst P (sym (from_at c.args.x (low_of c.args.b.now c.args.x) c.args.ranges.now c.args.place (pos 0, pos 0) c.if-place-ranges.true)) (c.hear.new.self, subst Q c.from_tell.ensures c.hear.ensures, refl)

pub returns-else-place-ranges : goal.returns-else-place-ranges
returns-else-place-ranges g c =
    let P : List Tell → Type 0 = λ ts. HearsAll g.H.Hear.hears c.args.h.now ts c.args.h.now in
    subst P (sym (from_nothing c.args.x (low_of c.args.b.now c.args.x) c.args.ranges.now c.args.place c.if-place-ranges.false)) refl
