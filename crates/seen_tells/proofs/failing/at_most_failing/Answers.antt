-- The sums that fail the inequality, as the code reads them.
use Rattle.std.proofs.Common.{to_z, of_z, sym, arith}
use Rattle.std.proofs.lemmas.Int.{ints}
use mir.Syntax.{w64}
use Rattle.small_sums.proofs.ShortLaws.{short_number}
use Rattle.kernel_visits.proofs.ShapeQuiet.{at_most_places}
use Rattle.seen_tells.proofs.DifferenceLaws.{at_most_number, coded_of}
use Rattle.seen_tells.proofs.FailLaws.{at_most_none, at_most_all}
use Rattle.seen_tells.proofs.failing.at_most_failing.Goals as goal

pub difference-pair-requires-clause-first : goal.difference-pair-requires-clause-first
difference-pair-requires-clause-first c = (at_most_places c.args.k.now c.args.b.now c.args.lit c.args.x c.args.y c.args.limit c.requires.kernel c.requires.proper c.requires.shape).first

pub difference-pair-requires-clause-second : goal.difference-pair-requires-clause-second
difference-pair-requires-clause-second c = (at_most_places c.args.k.now c.args.b.now c.args.lit c.args.x c.args.y c.args.limit c.requires.kernel c.requires.proper c.requires.shape).second

pub difference-pair-requires-clause-proper_first : goal.difference-pair-requires-clause-proper_first
difference-pair-requires-clause-proper_first c = (at_most_places c.args.k.now c.args.b.now c.args.lit c.args.x c.args.y c.args.limit c.requires.kernel c.requires.proper c.requires.shape).first_proper

pub difference-pair-requires-clause-proper_second : goal.difference-pair-requires-clause-proper_second
difference-pair-requires-clause-proper_second c = (at_most_places c.args.k.now c.args.b.now c.args.lit c.args.x c.args.y c.args.limit c.requires.kernel c.requires.proper c.requires.shape).second_proper

pub stands_true-requires-clause-variable : goal.stands_true-requires-clause-variable
stands_true-requires-clause-variable c = (at_most_places c.args.k.now c.args.b.now c.args.lit c.args.x c.args.y c.args.limit c.requires.kernel c.requires.proper c.requires.shape).literal

pub stands_true-requires-clause-proper : goal.stands_true-requires-clause-proper
stands_true-requires-clause-proper c = (at_most_places c.args.k.now c.args.b.now c.args.lit c.args.x c.args.y c.args.limit c.requires.kernel c.requires.proper c.requires.shape).literal_proper

pub stands_false-requires-clause-variable : goal.stands_false-requires-clause-variable
stands_false-requires-clause-variable c = (at_most_places c.args.k.now c.args.b.now c.args.lit c.args.x c.args.y c.args.limit c.requires.kernel c.requires.proper c.requires.shape).literal

pub stands_false-requires-clause-proper : goal.stands_false-requires-clause-proper
stands_false-requires-clause-proper c = (at_most_places c.args.k.now c.args.b.now c.args.lit c.args.x c.args.y c.args.limit c.requires.kernel c.requires.proper c.requires.shape).literal_proper

pub returns-then-stands_true : goal.returns-then-stands_true
returns-then-stands_true c =
    let b = c.args.b.now in
    let places = (at_most_places c.args.k.now c.args.b.now c.args.lit c.args.x c.args.y c.args.limit c.requires.kernel c.requires.proper c.requires.shape) in
    let number = at_most_number c.args.k.now _ c.args.lit c.args.x c.args.y c.args.limit c.requires.kernel c.requires.shape in
    let coded = to_z w64 (of_z w64 c.args.limit) in
    let p = c.difference-pair.result in
    let terms = c.difference-pair.ensures in
    let least = coded_of p.first.least p.second.least c.sum-least.result c.sum-least.ensures terms.first.small.least terms.second.small.least in
    let test = c.if-limit-least.true in
    at_most_none c.law_clamp_order.ensures b c.args.k.now c.args.lit c.args.x c.args.y c.args.limit coded (short_number c.args.limit number) p terms places.literal_proper c.requires.shape (sym c.if-stands_true.ensures) (omega (arith, ints)) c.tell_false.result c.tell_false.ensures

pub returns-then-stands_false : goal.returns-then-stands_false
returns-then-stands_false c =
    let b = c.args.b.now in
    let places = (at_most_places c.args.k.now c.args.b.now c.args.lit c.args.x c.args.y c.args.limit c.requires.kernel c.requires.proper c.requires.shape) in
    let number = at_most_number c.args.k.now _ c.args.lit c.args.x c.args.y c.args.limit c.requires.kernel c.requires.shape in
    let coded = to_z w64 (of_z w64 c.args.limit) in
    let p = c.difference-pair.result in
    let terms = c.difference-pair.ensures in
    let greatest = coded_of p.first.greatest p.second.greatest c.sum-greatest.result c.sum-greatest.ensures terms.first.small.greatest terms.second.small.greatest in
    let test = c.if-greatest-limit.true in
    at_most_all c.law_clamp_order.ensures b c.args.k.now c.args.lit c.args.x c.args.y c.args.limit coded (short_number c.args.limit number) p terms places.literal_proper c.requires.shape (sym c.if-stands_false.ensures) (omega (arith, ints)) c.tell_true.result c.tell_true.ensures
