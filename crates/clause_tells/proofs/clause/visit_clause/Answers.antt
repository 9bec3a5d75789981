-- An empty clause has one tell.
use Rattle.std.proofs.Common.{List, subst, sym}
use Rattle.tells.specs.declared.tell.Tell.{Tell}
use Rattle.tells.specs.Hearing.{MayHearAll, HearsAll}
use Rattle.clause_tells.proofs.ClauseTells.{clause_of_none}
use Rattle.tell_laws.proofs.CommonLaws.{none_there, some_there}
use Rattle.clause_tells.proofs.clause.visit_clause.Goals as goal

pub hear-requires : goal.hear-requires
hear-requires g c =
    let P : List Tell → Type 0 = λ ts. MayHearAll g.H.Hear.can_hear g.H.Hear.hears c.args.h.now ts in
    let may = subst P (clause_of_none c.args.b.now c.args.lits.now (none_there c.args.lits.now _ c.is_empty.ensures c.if-is_empty.true)) c.requires.hearer in
    let Q : Tell → Type 0 = g.H.Hear.can_hear c.args.h.now in
    subst Q (sym c.no_number.ensures) may.0

pub tell_some-requires-clause-some : goal.tell_some-requires-clause-some
tell_some-requires-clause-some g c = some_there c.args.lits.now _ c.is_empty.ensures c.if-is_empty.false

pub returns-then-is_empty : goal.returns-then-is_empty
returns-then-is_empty g c =
    let P : List Tell → Type 0 = λ ts. HearsAll g.H.Hear.hears c.args.h.now ts c.hear.new.self in
    let Q : Tell → Type 0 = λ t. g.H.Hear.hears c.args.h.now t c.hear.new.self in
    subst P (sym (clause_of_none c.args.b.now c.args.lits.now (none_there c.args.lits.now _ c.is_empty.ensures c.if-is_empty.true))) (c.hear.new.self, subst Q c.no_number.ensures c.hear.ensures, (λ i. c.hear.new.self))
