-- An empty list has one tell.
use Rattle.std.proofs.Common.{List, subst, sym}
use Rattle.tells.specs.declared.tell.Tell.{Tell}
use Rattle.tells.specs.Hearing.{MayHearAll, HearsAll}
use Rattle.extreme_tells.proofs.CommonLaws.{none_there, some_there}
use Rattle.extreme_tells.proofs.MinimumLaws.{min_of_none, min_of_some}
use Rattle.extreme_tells.proofs.minimum.visit_min.Goals as goal

pub hear-requires : goal.hear-requires
hear-requires g c =
    let P : List Tell → Type 0 = λ ts. MayHearAll g.H.Hear.can_hear g.H.Hear.hears c.args.h.now ts in
    let may = subst P (min_of_none c.args.m c.args.xs.now c.args.b.now (none_there c.args.xs.now _ c.is_empty.ensures c.if-is_empty.true)) c.requires.hearer in
    let Q : Tell → Type 0 = g.H.Hear.can_hear c.args.h.now in
    subst Q (sym c.no_number.ensures) may.0

pub tell_least-requires-clause-some : goal.tell_least-requires-clause-some
tell_least-requires-clause-some g c = some_there c.args.xs.now _ c.is_empty.ensures c.if-is_empty.false

pub tell_least-requires-clause-hearer : goal.tell_least-requires-clause-hearer
tell_least-requires-clause-hearer g c =
    let P : List Tell → Type 0 = λ ts. MayHearAll g.H.Hear.can_hear g.H.Hear.hears c.args.h.now ts in
    subst P (min_of_some c.args.m c.args.xs.now c.args.b.now (some_there c.args.xs.now _ c.is_empty.ensures c.if-is_empty.false)) c.requires.hearer

pub returns-then-is_empty : goal.returns-then-is_empty
returns-then-is_empty g c =
    let P : List Tell → Type 0 = λ ts. HearsAll g.H.Hear.hears c.args.h.now ts c.hear.new.self in
    let Q : Tell → Type 0 = λ t. g.H.Hear.hears c.args.h.now t c.hear.new.self in
    subst P (sym (min_of_none c.args.m c.args.xs.now c.args.b.now (none_there c.args.xs.now _ c.is_empty.ensures c.if-is_empty.true))) (c.hear.new.self, subst Q c.no_number.ensures c.hear.ensures, (λ i. c.hear.new.self))

pub returns-else-is_empty : goal.returns-else-is_empty
returns-else-is_empty g c =
    let P : List Tell → Type 0 = λ ts. HearsAll g.H.Hear.hears c.args.h.now ts c.tell_least.new.h in
    subst P (sym (min_of_some c.args.m c.args.xs.now c.args.b.now (some_there c.args.xs.now _ c.is_empty.ensures c.if-is_empty.false))) c.tell_least.ensures
