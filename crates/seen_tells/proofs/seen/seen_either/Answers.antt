-- One literal is out, and the other is told.
use Rattle.std.proofs.Common.{sym}
use Rattle.kernel_visits.proofs.ShapeQuiet.{either_places}
use Rattle.seen_tells.proofs.LastLaws.{told_by, either_first_last, either_second_last}
use Rattle.seen_tells.proofs.seen.seen_either.Goals as goal

pub stands_false-requires-clause-variable : goal.stands_false-requires-clause-variable
stands_false-requires-clause-variable c = (either_places c.args.k.now c.args.b.now c.args.first c.args.second c.requires.kernel c.requires.proper c.requires.shape).first

pub stands_false-requires-clause-proper : goal.stands_false-requires-clause-proper
stands_false-requires-clause-proper c = (either_places c.args.k.now c.args.b.now c.args.first c.args.second c.requires.kernel c.requires.proper c.requires.shape).first_proper

pub sole_true-requires-clause-variable : goal.sole_true-requires-clause-variable
sole_true-requires-clause-variable c = (either_places c.args.k.now c.args.b.now c.args.first c.args.second c.requires.kernel c.requires.proper c.requires.shape).second

pub sole_true-requires-clause-proper : goal.sole_true-requires-clause-proper
sole_true-requires-clause-proper c = (either_places c.args.k.now c.args.b.now c.args.first c.args.second c.requires.kernel c.requires.proper c.requires.shape).second_proper

pub stands_false-requires-else-stands_false-clause-variable : goal.stands_false-requires-else-stands_false-clause-variable
stands_false-requires-else-stands_false-clause-variable c = (either_places c.args.k.now c.args.b.now c.args.first c.args.second c.requires.kernel c.requires.proper c.requires.shape).second

pub stands_false-requires-else-stands_false-clause-proper : goal.stands_false-requires-else-stands_false-clause-proper
stands_false-requires-else-stands_false-clause-proper c = (either_places c.args.k.now c.args.b.now c.args.first c.args.second c.requires.kernel c.requires.proper c.requires.shape).second_proper

pub sole_true-requires-then-stands_false-2-clause-variable : goal.sole_true-requires-then-stands_false-2-clause-variable
sole_true-requires-then-stands_false-2-clause-variable c = (either_places c.args.k.now c.args.b.now c.args.first c.args.second c.requires.kernel c.requires.proper c.requires.shape).first

pub sole_true-requires-then-stands_false-2-clause-proper : goal.sole_true-requires-then-stands_false-2-clause-proper
sole_true-requires-then-stands_false-2-clause-proper c = (either_places c.args.k.now c.args.b.now c.args.first c.args.second c.requires.kernel c.requires.proper c.requires.shape).first_proper

pub returns-then-stands_false : goal.returns-then-stands_false
returns-then-stands_false c =
    told_by c.args.k.now c.args.b.now c.args.second c.sole_true.result
    (λ t told. either_second_last c.law_quotient_order.ensures c.law_clamp_order.ensures c.args.b.now c.args.k.now c.requires.kernel c.args.first c.args.second c.requires.shape c.requires.proper t (sym c.if-stands_false.ensures) told)
    c.sole_true.ensures

pub returns-then-stands_false-2 : goal.returns-then-stands_false-2
returns-then-stands_false-2 c =
    told_by c.args.k.now c.args.b.now c.args.first c.sole_true-then-stands_false-2.result
    (λ t told. either_first_last c.law_quotient_order.ensures c.law_clamp_order.ensures c.args.b.now c.args.k.now c.requires.kernel c.args.first c.args.second c.requires.shape c.requires.proper t (sym c.if-stands_false-2.ensures) told)
    c.sole_true-then-stands_false-2.ensures
