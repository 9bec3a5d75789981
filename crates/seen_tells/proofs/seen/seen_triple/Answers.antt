-- Two literals are out, and the third is told.
use Rattle.std.proofs.Common.{sym}
use Rattle.kernel_visits.proofs.ShapeQuiet.{triple_places}
use Rattle.seen_tells.proofs.LastLaws.{told_by, triple_first_last, triple_second_last, triple_third_last}
use Rattle.seen_tells.proofs.seen.seen_triple.Goals as goal

pub stands_false-requires-clause-variable : goal.stands_false-requires-clause-variable
stands_false-requires-clause-variable c = (triple_places c.args.k.now c.args.b.now c.args.first c.args.second c.args.third c.requires.kernel c.requires.proper c.requires.shape).first

pub stands_false-requires-clause-proper : goal.stands_false-requires-clause-proper
stands_false-requires-clause-proper c = (triple_places c.args.k.now c.args.b.now c.args.first c.args.second c.args.third c.requires.kernel c.requires.proper c.requires.shape).first_proper

pub stands_false-requires-then-stands_false-clause-variable : goal.stands_false-requires-then-stands_false-clause-variable
stands_false-requires-then-stands_false-clause-variable c = (triple_places c.args.k.now c.args.b.now c.args.first c.args.second c.args.third c.requires.kernel c.requires.proper c.requires.shape).second

pub stands_false-requires-then-stands_false-clause-proper : goal.stands_false-requires-then-stands_false-clause-proper
stands_false-requires-then-stands_false-clause-proper c = (triple_places c.args.k.now c.args.b.now c.args.first c.args.second c.args.third c.requires.kernel c.requires.proper c.requires.shape).second_proper

pub sole_true-requires-clause-variable : goal.sole_true-requires-clause-variable
sole_true-requires-clause-variable c = (triple_places c.args.k.now c.args.b.now c.args.first c.args.second c.args.third c.requires.kernel c.requires.proper c.requires.shape).third

pub sole_true-requires-clause-proper : goal.sole_true-requires-clause-proper
sole_true-requires-clause-proper c = (triple_places c.args.k.now c.args.b.now c.args.first c.args.second c.args.third c.requires.kernel c.requires.proper c.requires.shape).third_proper

pub stands_false-requires-else-stands_false-2-clause-variable : goal.stands_false-requires-else-stands_false-2-clause-variable
stands_false-requires-else-stands_false-2-clause-variable c = (triple_places c.args.k.now c.args.b.now c.args.first c.args.second c.args.third c.requires.kernel c.requires.proper c.requires.shape).third

pub stands_false-requires-else-stands_false-2-clause-proper : goal.stands_false-requires-else-stands_false-2-clause-proper
stands_false-requires-else-stands_false-2-clause-proper c = (triple_places c.args.k.now c.args.b.now c.args.first c.args.second c.args.third c.requires.kernel c.requires.proper c.requires.shape).third_proper

pub sole_true-requires-then-stands_false-3-clause-variable : goal.sole_true-requires-then-stands_false-3-clause-variable
sole_true-requires-then-stands_false-3-clause-variable c = (triple_places c.args.k.now c.args.b.now c.args.first c.args.second c.args.third c.requires.kernel c.requires.proper c.requires.shape).second

pub sole_true-requires-then-stands_false-3-clause-proper : goal.sole_true-requires-then-stands_false-3-clause-proper
sole_true-requires-then-stands_false-3-clause-proper c = (triple_places c.args.k.now c.args.b.now c.args.first c.args.second c.args.third c.requires.kernel c.requires.proper c.requires.shape).second_proper

pub stands_false-requires-else-stands_false-clause-variable : goal.stands_false-requires-else-stands_false-clause-variable
stands_false-requires-else-stands_false-clause-variable c = (triple_places c.args.k.now c.args.b.now c.args.first c.args.second c.args.third c.requires.kernel c.requires.proper c.requires.shape).second

pub stands_false-requires-else-stands_false-clause-proper : goal.stands_false-requires-else-stands_false-clause-proper
stands_false-requires-else-stands_false-clause-proper c = (triple_places c.args.k.now c.args.b.now c.args.first c.args.second c.args.third c.requires.kernel c.requires.proper c.requires.shape).second_proper

pub stands_false-requires-then-stands_false-4-clause-variable : goal.stands_false-requires-then-stands_false-4-clause-variable
stands_false-requires-then-stands_false-4-clause-variable c = (triple_places c.args.k.now c.args.b.now c.args.first c.args.second c.args.third c.requires.kernel c.requires.proper c.requires.shape).third

pub stands_false-requires-then-stands_false-4-clause-proper : goal.stands_false-requires-then-stands_false-4-clause-proper
stands_false-requires-then-stands_false-4-clause-proper c = (triple_places c.args.k.now c.args.b.now c.args.first c.args.second c.args.third c.requires.kernel c.requires.proper c.requires.shape).third_proper

pub sole_true-requires-then-stands_false-5-clause-variable : goal.sole_true-requires-then-stands_false-5-clause-variable
sole_true-requires-then-stands_false-5-clause-variable c = (triple_places c.args.k.now c.args.b.now c.args.first c.args.second c.args.third c.requires.kernel c.requires.proper c.requires.shape).first

pub sole_true-requires-then-stands_false-5-clause-proper : goal.sole_true-requires-then-stands_false-5-clause-proper
sole_true-requires-then-stands_false-5-clause-proper c = (triple_places c.args.k.now c.args.b.now c.args.first c.args.second c.args.third c.requires.kernel c.requires.proper c.requires.shape).first_proper

pub returns-then-stands_false-2 : goal.returns-then-stands_false-2
returns-then-stands_false-2 c =
    told_by c.args.k.now c.args.b.now c.args.third c.sole_true.result
    (λ t told. triple_third_last c.law_quotient_order.ensures c.law_clamp_order.ensures c.args.b.now c.args.k.now c.requires.kernel c.args.first c.args.second c.args.third c.requires.shape c.requires.proper t (sym c.if-stands_false.ensures) (sym c.if-stands_false-2.ensures) told)
    c.sole_true.ensures

pub returns-then-stands_false-3 : goal.returns-then-stands_false-3
returns-then-stands_false-3 c =
    told_by c.args.k.now c.args.b.now c.args.second c.sole_true-then-stands_false-3.result
    (λ t told. triple_second_last c.law_quotient_order.ensures c.law_clamp_order.ensures c.args.b.now c.args.k.now c.requires.kernel c.args.first c.args.second c.args.third c.requires.shape c.requires.proper t (sym c.if-stands_false.ensures) (sym c.if-stands_false-3.ensures) told)
    c.sole_true-then-stands_false-3.ensures

pub returns-then-stands_false-5 : goal.returns-then-stands_false-5
returns-then-stands_false-5 c =
    told_by c.args.k.now c.args.b.now c.args.first c.sole_true-then-stands_false-5.result
    (λ t told. triple_first_last c.law_quotient_order.ensures c.law_clamp_order.ensures c.args.b.now c.args.k.now c.requires.kernel c.args.first c.args.second c.args.third c.requires.shape c.requires.proper t (sym c.if-stands_false-4.ensures) (sym c.if-stands_false-5.ensures) told)
    c.sole_true-then-stands_false-5.ensures
