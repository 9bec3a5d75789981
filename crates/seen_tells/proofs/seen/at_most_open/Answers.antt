-- The sums that decide the literal, as the code reads them.
use Rattle.std.proofs.Common.{to_z, of_z, arith}
use Rattle.std.proofs.lemmas.Int.{ints}
use mir.Syntax.{w64}
use Rattle.small_sums.proofs.ShortLaws.{short_number}
use Rattle.kernel_visits.proofs.ShapeQuiet.{at_most_places}
use Rattle.seen_tells.proofs.DifferenceLaws.{at_most_number, coded_of}
use Rattle.seen_tells.proofs.OneLaws.{at_most_true, at_most_false}
use Rattle.seen_tells.proofs.LastLaws.{sole_last, at_most_true_last, at_most_false_last}
use Rattle.seen_tells.proofs.seen.at_most_open.Goals as goal

pub difference-pair-requires-clause-first : goal.difference-pair-requires-clause-first
difference-pair-requires-clause-first c = (at_most_places c.args.k.now c.args.b.now c.args.lit c.args.x c.args.y c.args.limit c.requires.kernel c.requires.proper c.requires.shape).first

pub difference-pair-requires-clause-second : goal.difference-pair-requires-clause-second
difference-pair-requires-clause-second c = (at_most_places c.args.k.now c.args.b.now c.args.lit c.args.x c.args.y c.args.limit c.requires.kernel c.requires.proper c.requires.shape).second

pub difference-pair-requires-clause-proper_first : goal.difference-pair-requires-clause-proper_first
difference-pair-requires-clause-proper_first c = (at_most_places c.args.k.now c.args.b.now c.args.lit c.args.x c.args.y c.args.limit c.requires.kernel c.requires.proper c.requires.shape).first_proper

pub difference-pair-requires-clause-proper_second : goal.difference-pair-requires-clause-proper_second
difference-pair-requires-clause-proper_second c = (at_most_places c.args.k.now c.args.b.now c.args.lit c.args.x c.args.y c.args.limit c.requires.kernel c.requires.proper c.requires.shape).second_proper

pub returns-then-sum-limit : goal.returns-then-sum-limit
returns-then-sum-limit c =
    let b = c.args.b.now in
    let places = (at_most_places c.args.k.now c.args.b.now c.args.lit c.args.x c.args.y c.args.limit c.requires.kernel c.requires.proper c.requires.shape) in
    let number = (at_most_number c.args.k.now _ c.args.lit c.args.x c.args.y c.args.limit c.requires.kernel c.requires.shape) in
    let coded = to_z w64 (of_z w64 c.args.limit) in
    let p = c.difference-pair.result in
    let terms = c.difference-pair.ensures in
    let greatest = coded_of p.first.greatest p.second.greatest c.sum.result c.sum.ensures terms.first.small.greatest terms.second.small.greatest in
    let test0 = c.if-sum-limit.true in
    sole_last c.args.k.now b c.last.result c.tell_true.result _ c.last.ensures.tell c.tell_true.ensures
    (at_most_true c.law_quotient_order.ensures c.law_clamp_order.ensures b c.args.k.now c.args.lit c.args.x c.args.y c.args.limit coded (short_number c.args.limit number) p terms
    c.requires.unsure c.requires.possible places.literal_proper c.requires.shape (omega (arith, ints)) c.tell_true.result c.tell_true.ensures)
    (at_most_true_last c.law_quotient_order.ensures c.law_clamp_order.ensures b c.args.k.now c.requires.kernel c.args.lit c.args.x c.args.y c.args.limit p terms c.requires.shape (omega (arith, ints)))

pub returns-then-limit-sum : goal.returns-then-limit-sum
returns-then-limit-sum c =
    let b = c.args.b.now in
    let places = (at_most_places c.args.k.now c.args.b.now c.args.lit c.args.x c.args.y c.args.limit c.requires.kernel c.requires.proper c.requires.shape) in
    let number = (at_most_number c.args.k.now _ c.args.lit c.args.x c.args.y c.args.limit c.requires.kernel c.requires.shape) in
    let coded = to_z w64 (of_z w64 c.args.limit) in
    let p = c.difference-pair.result in
    let terms = c.difference-pair.ensures in
    let least = coded_of p.first.least p.second.least c.sum-else-sum-limit.result c.sum-else-sum-limit.ensures terms.first.small.least terms.second.small.least in
    let test0 = c.if-limit-sum.true in
    sole_last c.args.k.now b c.last-then-limit-sum.result c.tell_false.result _ c.last-then-limit-sum.ensures.tell c.tell_false.ensures
    (at_most_false c.law_quotient_order.ensures c.law_clamp_order.ensures b c.args.k.now c.args.lit c.args.x c.args.y c.args.limit coded (short_number c.args.limit number) p terms
    c.requires.unsure c.requires.possible places.literal_proper c.requires.shape (omega (arith, ints)) c.tell_false.result c.tell_false.ensures)
    (at_most_false_last c.law_quotient_order.ensures c.law_clamp_order.ensures b c.args.k.now c.requires.kernel c.args.lit c.args.x c.args.y c.args.limit p terms c.requires.shape (omega (arith, ints)))
