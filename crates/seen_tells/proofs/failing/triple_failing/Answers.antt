-- All three literals are out.
use Rattle.std.proofs.Common.{sym}
use Rattle.kernel_visits.proofs.ShapeQuiet.{triple_places}
use Rattle.seen_tells.proofs.FailLaws.{triple_failed}
use Rattle.seen_tells.proofs.failing.triple_failing.Goals as goal

pub stands_false-requires-clause-variable : goal.stands_false-requires-clause-variable
stands_false-requires-clause-variable c = (triple_places c.args.k.now c.args.b.now c.args.first c.args.second c.args.third c.requires.kernel c.requires.proper c.requires.shape).first

pub stands_false-requires-clause-proper : goal.stands_false-requires-clause-proper
stands_false-requires-clause-proper c = (triple_places c.args.k.now c.args.b.now c.args.first c.args.second c.args.third c.requires.kernel c.requires.proper c.requires.shape).first_proper

pub stands_false-requires-then-stands_false-clause-variable : goal.stands_false-requires-then-stands_false-clause-variable
stands_false-requires-then-stands_false-clause-variable c = (triple_places c.args.k.now c.args.b.now c.args.first c.args.second c.args.third c.requires.kernel c.requires.proper c.requires.shape).second

pub stands_false-requires-then-stands_false-clause-proper : goal.stands_false-requires-then-stands_false-clause-proper
stands_false-requires-then-stands_false-clause-proper c = (triple_places c.args.k.now c.args.b.now c.args.first c.args.second c.args.third c.requires.kernel c.requires.proper c.requires.shape).second_proper

pub stands_false-requires-then-stands_false-2-clause-variable : goal.stands_false-requires-then-stands_false-2-clause-variable
stands_false-requires-then-stands_false-2-clause-variable c = (triple_places c.args.k.now c.args.b.now c.args.first c.args.second c.args.third c.requires.kernel c.requires.proper c.requires.shape).third

pub stands_false-requires-then-stands_false-2-clause-proper : goal.stands_false-requires-then-stands_false-2-clause-proper
stands_false-requires-then-stands_false-2-clause-proper c = (triple_places c.args.k.now c.args.b.now c.args.first c.args.second c.args.third c.requires.kernel c.requires.proper c.requires.shape).third_proper

pub returns-then-stands_false-3 : goal.returns-then-stands_false-3
returns-then-stands_false-3 c =
    triple_failed c.law_clamp_order.ensures c.args.b.now c.args.k.now c.args.first c.args.second c.args.third c.requires.shape (sym c.if-stands_false.ensures) (sym c.if-stands_false-2.ensures) (sym c.if-stands_false-3.ensures) (triple_places c.args.k.now c.args.b.now c.args.first c.args.second c.args.third c.requires.kernel c.requires.proper c.requires.shape).first_proper c.tell_true.result c.tell_true.ensures
