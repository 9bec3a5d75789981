-- The sums that fail the equation, as the code reads them.
use Rattle.std.proofs.Common.{to_z, of_z, sym, arith}
use Rattle.std.proofs.lemmas.Int.{ints}
use mir.Syntax.{w64}
use Rattle.small_sums.proofs.ShortLaws.{short_number}
use Rattle.kernel_visits.proofs.ShapeQuiet.{same_places}
use Rattle.seen_tells.proofs.ApartLaws.{limit_number}
use Rattle.seen_tells.proofs.DifferenceLaws.{coded_of}
use Rattle.seen_tells.proofs.FailLaws.{same_below, same_above, same_certain}
use Rattle.seen_tells.proofs.failing.same_failing.Goals as goal

pub difference-pair-requires-clause-first : goal.difference-pair-requires-clause-first
difference-pair-requires-clause-first c = (same_places c.args.k.now c.args.b.now c.args.lit c.args.x c.args.y c.args.limit c.requires.kernel c.requires.proper c.requires.shape).first

pub difference-pair-requires-clause-second : goal.difference-pair-requires-clause-second
difference-pair-requires-clause-second c = (same_places c.args.k.now c.args.b.now c.args.lit c.args.x c.args.y c.args.limit c.requires.kernel c.requires.proper c.requires.shape).second

pub difference-pair-requires-clause-proper_first : goal.difference-pair-requires-clause-proper_first
difference-pair-requires-clause-proper_first c = (same_places c.args.k.now c.args.b.now c.args.lit c.args.x c.args.y c.args.limit c.requires.kernel c.requires.proper c.requires.shape).first_proper

pub difference-pair-requires-clause-proper_second : goal.difference-pair-requires-clause-proper_second
difference-pair-requires-clause-proper_second c = (same_places c.args.k.now c.args.b.now c.args.lit c.args.x c.args.y c.args.limit c.requires.kernel c.requires.proper c.requires.shape).second_proper

pub stands_false-requires-clause-variable : goal.stands_false-requires-clause-variable
stands_false-requires-clause-variable c = (same_places c.args.k.now c.args.b.now c.args.lit c.args.x c.args.y c.args.limit c.requires.kernel c.requires.proper c.requires.shape).literal

pub stands_false-requires-clause-proper : goal.stands_false-requires-clause-proper
stands_false-requires-clause-proper c = (same_places c.args.k.now c.args.b.now c.args.lit c.args.x c.args.y c.args.limit c.requires.kernel c.requires.proper c.requires.shape).literal_proper

pub stands_true-requires-clause-variable : goal.stands_true-requires-clause-variable
stands_true-requires-clause-variable c = (same_places c.args.k.now c.args.b.now c.args.lit c.args.x c.args.y c.args.limit c.requires.kernel c.requires.proper c.requires.shape).literal

pub stands_true-requires-clause-proper : goal.stands_true-requires-clause-proper
stands_true-requires-clause-proper c = (same_places c.args.k.now c.args.b.now c.args.lit c.args.x c.args.y c.args.limit c.requires.kernel c.requires.proper c.requires.shape).literal_proper

pub returns-then-limit-least : goal.returns-then-limit-least
returns-then-limit-least c =
    let b = c.args.b.now in
    let places = (same_places c.args.k.now c.args.b.now c.args.lit c.args.x c.args.y c.args.limit c.requires.kernel c.requires.proper c.requires.shape) in
    let number = limit_number c.args.k.now _ c.args.lit c.args.x c.args.y c.args.limit c.requires.kernel c.requires.shape in
    let coded = to_z w64 (of_z w64 c.args.limit) in
    let p = c.difference-pair.result in
    let terms = c.difference-pair.ensures in
    let least = coded_of p.first.least p.second.least c.sum-least.result c.sum-least.ensures terms.first.small.least terms.second.small.least in
    let greatest = coded_of p.first.greatest p.second.greatest c.sum-greatest.result c.sum-greatest.ensures terms.first.small.greatest terms.second.small.greatest in
    let most = c.if-greatest-limit.true in
    let test = c.if-limit-least.true in
    same_certain c.law_clamp_order.ensures b c.args.k.now c.args.lit c.args.x c.args.y c.args.limit coded (short_number c.args.limit number) p terms places.literal_proper c.requires.shape (sym c.if-stands_false.ensures) (omega (arith, ints)) (omega (arith, ints)) c.tell_true.result c.tell_true.ensures

pub returns-then-limit-least-2 : goal.returns-then-limit-least-2
returns-then-limit-least-2 c =
    let b = c.args.b.now in
    let places = (same_places c.args.k.now c.args.b.now c.args.lit c.args.x c.args.y c.args.limit c.requires.kernel c.requires.proper c.requires.shape) in
    let number = limit_number c.args.k.now _ c.args.lit c.args.x c.args.y c.args.limit c.requires.kernel c.requires.shape in
    let coded = to_z w64 (of_z w64 c.args.limit) in
    let p = c.difference-pair.result in
    let terms = c.difference-pair.ensures in
    let least = coded_of p.first.least p.second.least c.sum-least.result c.sum-least.ensures terms.first.small.least terms.second.small.least in
    let test = c.if-limit-least-2.true in
    same_below c.law_clamp_order.ensures b c.args.k.now c.args.lit c.args.x c.args.y c.args.limit coded (short_number c.args.limit number) p terms places.literal_proper c.requires.shape (sym c.if-stands_true.ensures) (omega (arith, ints)) c.tell_false.result c.tell_false.ensures

pub returns-then-greatest-limit-2 : goal.returns-then-greatest-limit-2
returns-then-greatest-limit-2 c =
    let b = c.args.b.now in
    let places = (same_places c.args.k.now c.args.b.now c.args.lit c.args.x c.args.y c.args.limit c.requires.kernel c.requires.proper c.requires.shape) in
    let number = limit_number c.args.k.now _ c.args.lit c.args.x c.args.y c.args.limit c.requires.kernel c.requires.shape in
    let coded = to_z w64 (of_z w64 c.args.limit) in
    let p = c.difference-pair.result in
    let terms = c.difference-pair.ensures in
    let greatest = coded_of p.first.greatest p.second.greatest c.sum-greatest.result c.sum-greatest.ensures terms.first.small.greatest terms.second.small.greatest in
    let test = c.if-greatest-limit-2.true in
    same_above c.law_clamp_order.ensures b c.args.k.now c.args.lit c.args.x c.args.y c.args.limit coded (short_number c.args.limit number) p terms places.literal_proper c.requires.shape (sym c.if-stands_true.ensures) (omega (arith, ints)) c.tell_false-then-greatest-limit-2.result c.tell_false-then-greatest-limit-2.ensures
