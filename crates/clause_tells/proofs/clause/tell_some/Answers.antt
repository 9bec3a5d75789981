-- The tells go by the number of literals that aren't out; from two on there are none.
use Rattle.std.proofs.Common.{List, subst, sym, refl}
use Rattle.tells.specs.declared.tell.Tell.{Tell}
use Rattle.tells.specs.Hearing.{MayHearAll, HearsAll}
use Rattle.clause_tells.proofs.ClauseTells.{clause_by_few, clause_of_many, literals_in}
use Rattle.clause_tells.proofs.clause.tell_some.Goals as goal

pub count_left-left-requires : goal.count_left-left-requires
count_left-left-requires g c = literals_in _ c.args.lits.now c.requires.some c.requires.variables

pub tell_sole-requires-clause-variables : goal.tell_sole-requires-clause-variables
tell_sole-requires-clause-variables g c = literals_in _ c.args.lits.now c.requires.some c.requires.variables

pub tell_sole-requires-clause-hearer : goal.tell_sole-requires-clause-hearer
tell_sole-requires-clause-hearer g c =
    let P : List Tell → Type 0 = λ ts. MayHearAll g.H.Hear.can_hear g.H.Hear.hears c.args.h.now ts in
    subst P (clause_by_few c.args.b.now c.args.lits.now _ c.requires.some c.count_left-left.ensures) c.requires.hearer

pub returns-then-left-lt2 : goal.returns-then-left-lt2
returns-then-left-lt2 g c =
    let P : List Tell → Type 0 = λ ts. HearsAll g.H.Hear.hears c.args.h.now ts c.tell_sole.new.h in
    subst P (sym (clause_by_few c.args.b.now c.args.lits.now _ c.requires.some c.count_left-left.ensures)) c.tell_sole.ensures

pub returns-else-left-lt2 : goal.returns-else-left-lt2
returns-else-left-lt2 g c =
    let P : List Tell → Type 0 = λ ts. HearsAll g.H.Hear.hears c.args.h.now ts c.args.h.now in
    subst P (sym (clause_of_many c.args.b.now c.args.lits.now _ c.requires.some c.count_left-left.ensures c.if-left-lt2.false)) refl
