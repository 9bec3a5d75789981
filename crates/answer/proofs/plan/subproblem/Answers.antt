use Rattle.std.proofs.Common.{inl, inr}
use Rattle.answer.proofs.plan.subproblem.Goals as goal

-- without a best cost nothing is beaten
pub returns-clause-path : goal.returns-clause-path
returns-clause-path g c =
    let below = c.in_ok-found.ensures.path in
    record { part = below.part; stands = below.stands; leads = elim below.leads [ inl leads ↦ leads | inr none ↦ absurd none.1 ] }
