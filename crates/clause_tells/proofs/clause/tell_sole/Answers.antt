-- Each step makes the hearer hear the tells of one more literal.
use Rattle.std.proofs.Common.{◌<◌, length, arith, subst, sym}
use Rattle.tells.specs.declared.tell.Lit.{Lit}
use Rattle.tells.specs.Hearing.{MayHearAll, HearsAll}
use Rattle.clause_tells.specs.Clause.{sole_tell}
use Rattle.tell_laws.proofs.HearingLaws.{leads_may, leads_next}
use Rattle.clause_tells.proofs.clause.tell_sole.Goals as goal

pub tell_where_sole-requires-clause-hearer : goal.tell_where_sole-requires-clause-hearer
tell_where_sole-requires-clause-hearer g c =
    let P : Lit → Type 0 = λ l. MayHearAll g.H.Hear.can_hear g.H.Hear.hears c.loop-i.h (sole_tell c.args.left c.args.b.now l) in
    let inside : c.loop-i.i < length c.args.lits.now = omega arith in
    subst P (sym c.at.ensures) (leads_may _ _ _ _ _ _ c.loop-i.i c.at.result inside c.loop-i.invariant)

pub loop-i-preserved : goal.loop-i-preserved
loop-i-preserved g c =
    let P : Lit → Type 0 = λ l. HearsAll g.H.Hear.hears c.loop-i.h (sole_tell c.args.left c.args.b.now l) c.tell_where_sole.new.h in
    let inside : c.loop-i.i < length c.args.lits.now = omega arith in
    leads_next _ _ _ _ _ _ _ c.loop-i.i c.at.result inside c.loop-i.invariant (subst P c.at.ensures c.tell_where_sole.ensures)
