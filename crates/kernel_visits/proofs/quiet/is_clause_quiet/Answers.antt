-- The literals of a clause that isn't empty are in the box, and what is found says whether it is quiet.
use Rattle.std.proofs.Common.{sym, subst}
use Rattle.std.specs.Bool.{MatchBool}
use Rattle.std.specs.List.{All}
use Rattle.guarded_tell.specs.Words.{Keeps}
use Rattle.clause_tells.specs.Clause.{clause_tells}
use Rattle.kernel_visits.specs.Found.{IsNoneOrOne, IsLeftAt}
use Rattle.kernel_visits.proofs.FoundLaws.{quiet_or_one}
use Rattle.clause_tells.proofs.ClauseTells.{literals_in}
use Rattle.tell_laws.proofs.CommonLaws.{some_there}
use Rattle.kernel_visits.proofs.quiet.is_clause_quiet.Goals as goal

pub is_quiet_at-requires-clause-variables : goal.is_quiet_at-requires-clause-variables
is_quiet_at-requires-clause-variables c = literals_in _ c.args.lits.now (some_there c.args.lits.now _ c.is_empty.ensures c.if-is_empty.false) c.requires.variables

pub places_left-found-requires-clause-variables : goal.places_left-found-requires-clause-variables
places_left-found-requires-clause-variables c = literals_in _ c.args.lits.now (some_there c.args.lits.now _ c.is_empty.ensures c.if-is_empty.false) c.requires.variables

pub returns : goal.returns
returns c =
    subst (λ r. MatchBool r (All (Keeps c.args.b.now) (clause_tells c.args.lits.now c.args.b.now)) (IsNoneOrOne (IsLeftAt c.args.b.now c.args.lits.now))) (sym c.is_two.ensures)
    (quiet_or_one c.law_clamp_order.ensures c.args.b.now c.args.lits.now c.places_left-found.result c.places_left-found.ensures)
