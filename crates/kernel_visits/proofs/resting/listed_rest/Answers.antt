-- What is seen of a list is so of its kernel in all boxes inside.
use Rattle.std.proofs.Common.{length, sym, subst}
use Rattle.std.specs.List.{All}
use Rattle.guarded_tell.specs.declared.kernel.Kernel.{Kernel}
use Rattle.guarded_tell.specs.Words.{Keeps, AreVariables, IsProperIn}
use Rattle.guarded_tell.specs.Kernels.{vars_of, tells}
use Rattle.kernel_visits.proofs.RestLaws.{literals_all}
use Rattle.kernel_visits.proofs.SeenLaws.{until_fixed, clause_seen, open_rests}
use Rattle.kernel_visits.proofs.FoundLaws.{clause_searched}
use Rattle.kernel_visits.proofs.resting.listed_rest.Goals as goal

pub clause_rest-requires : goal.clause_rest-requires
unfolding vars_of
clause_rest-requires c = literals_all (length c.args.b.now) c.in-Clause.lits (subst (λ (j : Kernel). AreVariables (length c.args.b.now) (vars_of j)) c.in-Clause.is c.requires.kernel.variables)

pub is_open_sum-requires-clause-proper : goal.is_open_sum-requires-clause-proper
unfolding vars_of
is_open_sum-requires-clause-proper c = subst (λ (j : Kernel). IsProperIn (vars_of j) c.args.b.now) c.in-Eq.is c.requires.proper

pub returns-then-is_clause_quiet : goal.returns-then-is_clause_quiet
unfolding tells
returns-then-is_clause_quiet c =
    clause_seen c.law_quotient_order.ensures c.law_clamp_order.ensures c.args.b.now c.args.k.now c.requires.kernel c.in-Clause.lits _ c.in-Clause.is
    (subst (λ (j : Kernel). All (Keeps c.args.b.now) (tells j c.args.b.now)) (sym c.in-Clause.is) c.if-is_clause_quiet.ensures) c.clause_rest.result c.clause_rest.ensures

pub returns-then-is_open_sum : goal.returns-then-is_open_sum
returns-then-is_open_sum c =
    until_fixed c.law_quotient_order.ensures c.law_clamp_order.ensures c.args.b.now c.args.k.now c.requires.kernel c.requires.proper
    (open_rests c.law_quotient_order.ensures c.law_clamp_order.ensures c.args.b.now c.args.k.now c.requires.kernel c.in-Eq.lit c.in-Eq.coeffs c.in-Eq.vars c.in-Eq.limit c.in-Eq.is c.if-is_open_sum.ensures)

pub returns-else-is_clause_quiet : goal.returns-else-is_clause_quiet
returns-else-is_clause_quiet c = clause_searched c.args.b.now c.args.k.now c.in-Clause.lits c.in-Clause.is c.if-is_clause_quiet.ensures
