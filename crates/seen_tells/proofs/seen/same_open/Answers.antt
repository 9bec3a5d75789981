-- The sums that decide the literal, as the code reads them.
use Rattle.std.proofs.Common.{to_z, of_z, arith}
use Rattle.std.proofs.lemmas.Int.{ints}
use mir.Syntax.{w64}
use Rattle.small_sums.proofs.ShortLaws.{short_number}
use Rattle.kernel_visits.proofs.ShapeQuiet.{same_places}
use Rattle.seen_tells.proofs.ApartLaws.{limit_number}
use Rattle.seen_tells.proofs.DifferenceLaws.{coded_of}
use Rattle.seen_tells.proofs.OneLaws.{same_false_low, same_false_high, same_true}
use Rattle.seen_tells.proofs.LastLaws.{sole_last, same_below_last, same_above_last, same_true_last}
use Rattle.seen_tells.proofs.seen.same_open.Goals as goal

pub difference-pair-requires-clause-first : goal.difference-pair-requires-clause-first
difference-pair-requires-clause-first c = (same_places c.args.k.now c.args.b.now c.args.lit c.args.x c.args.y c.args.limit c.requires.kernel c.requires.proper c.requires.shape).first

pub difference-pair-requires-clause-second : goal.difference-pair-requires-clause-second
difference-pair-requires-clause-second c = (same_places c.args.k.now c.args.b.now c.args.lit c.args.x c.args.y c.args.limit c.requires.kernel c.requires.proper c.requires.shape).second

pub difference-pair-requires-clause-proper_first : goal.difference-pair-requires-clause-proper_first
difference-pair-requires-clause-proper_first c = (same_places c.args.k.now c.args.b.now c.args.lit c.args.x c.args.y c.args.limit c.requires.kernel c.requires.proper c.requires.shape).first_proper

pub difference-pair-requires-clause-proper_second : goal.difference-pair-requires-clause-proper_second
difference-pair-requires-clause-proper_second c = (same_places c.args.k.now c.args.b.now c.args.lit c.args.x c.args.y c.args.limit c.requires.kernel c.requires.proper c.requires.shape).second_proper

pub returns-then-limit-least : goal.returns-then-limit-least
returns-then-limit-least c =
    let b = c.args.b.now in
    let places = (same_places c.args.k.now c.args.b.now c.args.lit c.args.x c.args.y c.args.limit c.requires.kernel c.requires.proper c.requires.shape) in
    let number = (limit_number c.args.k.now _ c.args.lit c.args.x c.args.y c.args.limit c.requires.kernel c.requires.shape) in
    let coded = to_z w64 (of_z w64 c.args.limit) in
    let p = c.difference-pair.result in
    let terms = c.difference-pair.ensures in
    let least = coded_of p.first.least p.second.least c.sum-least.result c.sum-least.ensures terms.first.small.least terms.second.small.least in
    let test0 = c.if-limit-least.true in
    sole_last c.args.k.now b c.last.result c.tell_false.result _ c.last.ensures.tell c.tell_false.ensures
    (same_false_low c.law_quotient_order.ensures c.law_clamp_order.ensures b c.args.k.now c.args.lit c.args.x c.args.y c.args.limit coded (short_number c.args.limit number) p terms
    c.requires.unsure c.requires.possible places.literal_proper c.requires.shape (omega (arith, ints)) c.tell_false.result c.tell_false.ensures)
    (same_below_last c.law_quotient_order.ensures c.law_clamp_order.ensures b c.args.k.now c.requires.kernel c.args.lit c.args.x c.args.y c.args.limit p terms c.requires.shape (omega (arith, ints)))

pub returns-then-greatest-limit : goal.returns-then-greatest-limit
returns-then-greatest-limit c =
    let b = c.args.b.now in
    let places = (same_places c.args.k.now c.args.b.now c.args.lit c.args.x c.args.y c.args.limit c.requires.kernel c.requires.proper c.requires.shape) in
    let number = (limit_number c.args.k.now _ c.args.lit c.args.x c.args.y c.args.limit c.requires.kernel c.requires.shape) in
    let coded = to_z w64 (of_z w64 c.args.limit) in
    let p = c.difference-pair.result in
    let terms = c.difference-pair.ensures in
    let greatest = coded_of p.first.greatest p.second.greatest c.sum-greatest.result c.sum-greatest.ensures terms.first.small.greatest terms.second.small.greatest in
    let test0 = c.if-greatest-limit.true in
    sole_last c.args.k.now b c.last-then-greatest-limit.result c.tell_false-then-greatest-limit.result _ c.last-then-greatest-limit.ensures.tell c.tell_false-then-greatest-limit.ensures
    (same_false_high c.law_quotient_order.ensures c.law_clamp_order.ensures b c.args.k.now c.args.lit c.args.x c.args.y c.args.limit coded (short_number c.args.limit number) p terms
    c.requires.unsure c.requires.possible places.literal_proper c.requires.shape (omega (arith, ints)) c.tell_false-then-greatest-limit.result c.tell_false-then-greatest-limit.ensures)
    (same_above_last c.law_quotient_order.ensures c.law_clamp_order.ensures b c.args.k.now c.requires.kernel c.args.lit c.args.x c.args.y c.args.limit p terms c.requires.shape (omega (arith, ints)))

pub returns-then-greatest-least : goal.returns-then-greatest-least
returns-then-greatest-least c =
    let b = c.args.b.now in
    let places = (same_places c.args.k.now c.args.b.now c.args.lit c.args.x c.args.y c.args.limit c.requires.kernel c.requires.proper c.requires.shape) in
    let number = (limit_number c.args.k.now _ c.args.lit c.args.x c.args.y c.args.limit c.requires.kernel c.requires.shape) in
    let coded = to_z w64 (of_z w64 c.args.limit) in
    let p = c.difference-pair.result in
    let terms = c.difference-pair.ensures in
    let greatest = coded_of p.first.greatest p.second.greatest c.sum-greatest.result c.sum-greatest.ensures terms.first.small.greatest terms.second.small.greatest in
    let least = coded_of p.first.least p.second.least c.sum-least.result c.sum-least.ensures terms.first.small.least terms.second.small.least in
    let test0 = c.if-limit-least.false in
    let test1 = c.if-greatest-limit.false in
    let test2 = c.if-greatest-least.true in
    sole_last c.args.k.now b c.last-then-greatest-least.result c.tell_true.result _ c.last-then-greatest-least.ensures.tell c.tell_true.ensures
    (same_true c.law_quotient_order.ensures c.law_clamp_order.ensures b c.args.k.now c.args.lit c.args.x c.args.y c.args.limit coded (short_number c.args.limit number) p terms
    c.requires.unsure c.requires.possible places.literal_proper c.requires.shape (omega (arith, ints)) (omega (arith, ints)) (omega (arith, ints)) c.tell_true.result c.tell_true.ensures)
    (same_true_last c.law_quotient_order.ensures c.law_clamp_order.ensures b c.args.k.now c.requires.kernel c.args.lit c.args.x c.args.y c.args.limit p terms c.requires.shape (short_number c.args.limit number) (omega (arith, ints)) (omega (arith, ints)))
