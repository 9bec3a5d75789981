-- The variable that is told, and its bound as the code forms it.
use Rattle.std.proofs.Common.{◌∙◌, ◌+ℤ◌, ◌-ℤ◌, FitsSigned, to_z, of_z, rules, arith}
use Rattle.std.proofs.lemmas.Int.{ints, to_z-of_z}
use mir.Syntax.{w64}
use Rattle.tells.specs.declared.tell.Side.TheVariants.{Low, High}
use Rattle.small_sums.proofs.ShortLaws.{short_number}
use Rattle.kernel_visits.proofs.ShapeQuiet.{at_most_places}
use Rattle.seen_tells.proofs.DifferenceLaws.{at_most_number, coded_of}
use Rattle.seen_tells.proofs.OneLaws.{limit_bound, first_one, second_one}
use Rattle.seen_tells.proofs.LastLaws.{sole_one}
use Rattle.seen_tells.proofs.seen.at_most_sure.Goals as goal

pub difference-pair-requires-clause-first : goal.difference-pair-requires-clause-first
difference-pair-requires-clause-first c = (at_most_places c.args.k.now c.args.b.now c.args.lit c.args.x c.args.y c.args.limit c.requires.kernel c.requires.proper c.requires.shape).first

pub difference-pair-requires-clause-second : goal.difference-pair-requires-clause-second
difference-pair-requires-clause-second c = (at_most_places c.args.k.now c.args.b.now c.args.lit c.args.x c.args.y c.args.limit c.requires.kernel c.requires.proper c.requires.shape).second

pub difference-pair-requires-clause-proper_first : goal.difference-pair-requires-clause-proper_first
difference-pair-requires-clause-proper_first c = (at_most_places c.args.k.now c.args.b.now c.args.lit c.args.x c.args.y c.args.limit c.requires.kernel c.requires.proper c.requires.shape).first_proper

pub difference-pair-requires-clause-proper_second : goal.difference-pair-requires-clause-proper_second
difference-pair-requires-clause-proper_second c = (at_most_places c.args.k.now c.args.b.now c.args.lit c.args.x c.args.y c.args.limit c.requires.kernel c.requires.proper c.requires.shape).second_proper

pub high-requires : goal.high-requires
high-requires c = (at_most_places c.args.k.now c.args.b.now c.args.lit c.args.x c.args.y c.args.limit c.requires.kernel c.requires.proper c.requires.shape).second

pub added-bound-requires-clause-first : goal.added-bound-requires-clause-first
added-bound-requires-clause-first c = limit_bound c.args.limit (at_most_number c.args.k.now _ c.args.lit c.args.x c.args.y c.args.limit c.requires.kernel c.requires.shape)

pub low-requires : goal.low-requires
low-requires c = (at_most_places c.args.k.now c.args.b.now c.args.lit c.args.x c.args.y c.args.limit c.requires.kernel c.requires.proper c.requires.shape).first

pub less-bound-requires-clause-second : goal.less-bound-requires-clause-second
less-bound-requires-clause-second c = limit_bound c.args.limit (at_most_number c.args.k.now _ c.args.lit c.args.x c.args.y c.args.limit c.requires.kernel c.requires.shape)

pub returns-else-limit-sum-2 : goal.returns-else-limit-sum-2
returns-else-limit-sum-2 c =
    let b = c.args.b.now in
    let places = (at_most_places c.args.k.now c.args.b.now c.args.lit c.args.x c.args.y c.args.limit c.requires.kernel c.requires.proper c.requires.shape) in
    let number = (at_most_number c.args.k.now _ c.args.lit c.args.x c.args.y c.args.limit c.requires.kernel c.requires.shape) in
    let coded = to_z w64 (of_z w64 c.args.limit) in
    let p = c.difference-pair.result in
    let terms = c.difference-pair.ensures in
    let first = coded_of p.first.greatest p.second.least c.sum.result c.sum.ensures terms.first.small.greatest terms.second.small.least in
    let second = coded_of p.first.least p.second.greatest c.sum-then-limit-sum.result c.sum-then-limit-sum.ensures terms.first.small.least terms.second.small.greatest in
    let one = c.if-limit-sum.true in
    let two = c.if-limit-sum-2.false in
    let high_fits : FitsSigned w64 c.high.result = search rules in
    let high = to_z-of_z w64 c.high.result high_fits ∙ c.high.ensures.value in
    let fits : FitsSigned w64 c.added-bound.result = search rules in
    let bound = to_z-of_z w64 c.added-bound.result fits ∙ c.added-bound.ensures ∙ (λ i. (short_number c.args.limit number i +ℤ high i)) in
    sole_one c.args.k.now b c.one.result c.one.ensures.last
    (first_one c.law_quotient_order.ensures c.law_clamp_order.ensures b c.args.k.now c.args.lit c.args.x c.args.y c.args.limit coded (short_number c.args.limit number) p terms
    c.requires.sure c.requires.shape places.first_proper places.second_proper (omega (arith, ints)) (omega (arith, ints))
    c.one.result.tell (c.one.ensures.tell ∙ (λ i. record { var = c.args.x; side = High; bound = bound i })))

pub returns-then-limit-sum-3 : goal.returns-then-limit-sum-3
returns-then-limit-sum-3 c =
    let b = c.args.b.now in
    let places = (at_most_places c.args.k.now c.args.b.now c.args.lit c.args.x c.args.y c.args.limit c.requires.kernel c.requires.proper c.requires.shape) in
    let number = (at_most_number c.args.k.now _ c.args.lit c.args.x c.args.y c.args.limit c.requires.kernel c.requires.shape) in
    let coded = to_z w64 (of_z w64 c.args.limit) in
    let p = c.difference-pair.result in
    let terms = c.difference-pair.ensures in
    let first = coded_of p.first.greatest p.second.least c.sum.result c.sum.ensures terms.first.small.greatest terms.second.small.least in
    let second = coded_of p.first.least p.second.greatest c.sum-else-limit-sum.result c.sum-else-limit-sum.ensures terms.first.small.least terms.second.small.greatest in
    let one = c.if-limit-sum.false in
    let two = c.if-limit-sum-3.true in
    let low_fits : FitsSigned w64 c.low.result = search rules in
    let low = to_z-of_z w64 c.low.result low_fits ∙ c.low.ensures.value in
    let fits : FitsSigned w64 c.less-bound.result = search rules in
    let bound = to_z-of_z w64 c.less-bound.result fits ∙ c.less-bound.ensures ∙ (λ i. (low i -ℤ short_number c.args.limit number i)) in
    sole_one c.args.k.now b c.one-then-limit-sum-3.result c.one-then-limit-sum-3.ensures.last
    (second_one c.law_quotient_order.ensures c.law_clamp_order.ensures b c.args.k.now c.args.lit c.args.x c.args.y c.args.limit coded (short_number c.args.limit number) p terms
    c.requires.sure c.requires.shape places.first_proper places.second_proper (omega (arith, ints)) (omega (arith, ints))
    c.one-then-limit-sum-3.result.tell (c.one-then-limit-sum-3.ensures.tell ∙ (λ i. record { var = c.args.y; side = Low; bound = bound i })))
