-- One range gives one tell.
use Rattle.std.proofs.Common.{List, pos, refl, subst, sym}
use Rattle.interval.specs.Boxes.{high_of}
use Rattle.tells.specs.declared.tell.Tell.{Tell}
use Rattle.tells.specs.Hearing.{MayHearAll, HearsAll}
use Rattle.set_tells.proofs.InSetTells.{upto_at, upto_nothing}
use Rattle.set_tells.proofs.in_set.tell_upto.Goals as goal

pub hear-requires : goal.hear-requires
hear-requires g c =
    let P : List Tell → Type 0 = λ ts. MayHearAll g.H.Hear.can_hear g.H.Hear.hears c.args.h.now ts in
    let may = subst P (upto_at c.args.x (high_of c.args.b.now c.args.x) c.args.ranges.now c.args.count (pos 0, pos 0) c.if-count-gt0.true c.requires.count) c.requires.hearer in
    let Q : Tell → Type 0 = g.H.Hear.can_hear c.args.h.now in
    subst Q (sym c.upto_tell.ensures) may.0

pub returns-then-count-gt0 : goal.returns-then-count-gt0
returns-then-count-gt0 g c =
    let P : List Tell → Type 0 = λ ts. HearsAll g.H.Hear.hears c.args.h.now ts c.hear.new.self in
    let Q : Tell → Type 0 = λ t. g.H.Hear.hears c.args.h.now t c.hear.new.self in
    subst P (sym (upto_at c.args.x (high_of c.args.b.now c.args.x) c.args.ranges.now c.args.count (pos 0, pos 0) c.if-count-gt0.true c.requires.count)) (c.hear.new.self, subst Q c.upto_tell.ensures c.hear.ensures, refl)

pub returns-else-count-gt0 : goal.returns-else-count-gt0
returns-else-count-gt0 g c =
    let P : List Tell → Type 0 = λ ts. HearsAll g.H.Hear.hears c.args.h.now ts c.args.h.now in
    subst P (sym (upto_nothing c.args.x (high_of c.args.b.now c.args.x) c.args.ranges.now c.args.count c.if-count-gt0.false)) refl
