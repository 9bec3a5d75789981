-- What is seen at the places that are remembered is so in all boxes inside.
use Rattle.std.proofs.Common.{length, subst}
use Rattle.guarded_tell.specs.declared.kernel.Kernel.{Kernel}
use Rattle.guarded_tell.specs.Words.{AreVariables, IsProperIn}
use Rattle.guarded_tell.specs.Kernels.{vars_of}
use Rattle.kernel_visits.proofs.RestLaws.{literals_all}
use Rattle.kernel_visits.proofs.SeenLaws.{clause_for, open_rests}
use Rattle.kernel_visits.proofs.resting.hinted_rest.Goals as goal

pub clause_rest-requires : goal.clause_rest-requires
unfolding vars_of
clause_rest-requires c = literals_all (length c.args.b.now) c.in-Clause.lits (subst (λ (j : Kernel). AreVariables (length c.args.b.now) (vars_of j)) c.in-Clause.is c.requires.kernel.variables)

pub is_open_at-requires-clause-proper : goal.is_open_at-requires-clause-proper
unfolding vars_of
is_open_at-requires-clause-proper c = subst (λ (j : Kernel). IsProperIn (vars_of j) c.args.b.now) c.in-Eq.is c.requires.proper

pub returns-in-Clause : goal.returns-in-Clause
returns-in-Clause c = clause_for c.law_quotient_order.ensures c.law_clamp_order.ensures c.args.b.now c.args.k.now c.requires.kernel c.in-Clause.lits c.args.hint.first c.in-Clause.is c.clause_rest.result c.clause_rest.ensures

pub returns-then-is_open_at : goal.returns-then-is_open_at
returns-then-is_open_at c = open_rests c.law_quotient_order.ensures c.law_clamp_order.ensures c.args.b.now c.args.k.now c.requires.kernel c.in-Eq.lit c.in-Eq.coeffs c.in-Eq.vars c.in-Eq.limit c.in-Eq.is c.if-is_open_at.ensures
