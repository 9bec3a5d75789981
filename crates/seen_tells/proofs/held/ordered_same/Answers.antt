-- The sums leave the terms their room.
use Rattle.std.proofs.Common.{◌≡◌, ◌∙◌, ◌-ℤ◌, ◌+ℤ◌, ◌≤ℤ◌, ℤ, pos, negsuc, List, FitsSigned, to_z, of_z, sym, subst, rules, arith}
use Rattle.std.proofs.lemmas.Int.{ints, to_z-of_z}
use mir.Syntax.{w64}
use Rattle.tells.specs.declared.tell.Tell.{Tell}
use Rattle.interval.specs.Limits.{largest_number}
use Rattle.tell_laws.specs.Narrowing.{narrowing}
use Rattle.small_sums.specs.Short.{short_sum_limit}
use Rattle.seen_tells.specs.Few.{AreFew}
use Rattle.seen_tells.specs.Held.{ordered_tells}
use Rattle.short_tells.specs.ShortTells.{room_tells}
use Rattle.seen_tells.specs.Three.{room_of}
use Rattle.kernel_visits.proofs.ShapeQuiet.{same_places}
use Rattle.seen_tells.proofs.ApartLaws.{limit_number}
use Rattle.seen_tells.proofs.DifferenceLaws.{coded_of, short_least, short_greatest}
use Rattle.seen_tells.proofs.ThreeLaws.{no_less}
use Rattle.seen_tells.proofs.FewLaws.{few_seen}
use Rattle.seen_tells.proofs.HeldLaws.{same_held}
use Rattle.seen_tells.proofs.held.ordered_same.Goals as goal

pub difference-pair-requires-clause-first : goal.difference-pair-requires-clause-first
difference-pair-requires-clause-first c = (same_places c.args.k.now c.args.b.now c.args.lit c.args.x c.args.y c.args.limit c.requires.kernel c.requires.proper c.requires.shape).first

pub difference-pair-requires-clause-second : goal.difference-pair-requires-clause-second
difference-pair-requires-clause-second c = (same_places c.args.k.now c.args.b.now c.args.lit c.args.x c.args.y c.args.limit c.requires.kernel c.requires.proper c.requires.shape).second

pub difference-pair-requires-clause-proper_first : goal.difference-pair-requires-clause-proper_first
difference-pair-requires-clause-proper_first c = (same_places c.args.k.now c.args.b.now c.args.lit c.args.x c.args.y c.args.limit c.requires.kernel c.requires.proper c.requires.shape).first_proper

pub difference-pair-requires-clause-proper_second : goal.difference-pair-requires-clause-proper_second
difference-pair-requires-clause-proper_second c = (same_places c.args.k.now c.args.b.now c.args.lit c.args.x c.args.y c.args.limit c.requires.kernel c.requires.proper c.requires.shape).second_proper

pub left-rise-requires-clause-whole : goal.left-rise-requires-clause-whole
unfolding short_sum_limit largest_number
left-rise-requires-clause-whole c = let n = limit_number c.args.k.now _ c.args.lit c.args.x c.args.y c.args.limit c.requires.kernel c.requires.shape in let f = to_z-of_z w64 c.args.limit c.ranges.limit in omega (arith, ints)

pub left-rise-requires-clause-part : goal.left-rise-requires-clause-part
left-rise-requires-clause-part c =
    let p = c.difference-pair.result in
    let terms = c.difference-pair.ensures in
    short_least c.args.b.now c.args.x c.args.y p terms _ (coded_of p.first.least p.second.least c.sum-least.result c.sum-least.ensures terms.first.small.least terms.second.small.least)

pub left-fall-requires-clause-whole : goal.left-fall-requires-clause-whole
left-fall-requires-clause-whole c =
    let p = c.difference-pair.result in
    let terms = c.difference-pair.ensures in
    short_greatest c.args.b.now c.args.x c.args.y p terms _ (coded_of p.first.greatest p.second.greatest c.sum-greatest.result c.sum-greatest.ensures terms.first.small.greatest terms.second.small.greatest)

pub left-fall-requires-clause-part : goal.left-fall-requires-clause-part
unfolding short_sum_limit largest_number
left-fall-requires-clause-part c = let n = limit_number c.args.k.now _ c.args.lit c.args.x c.args.y c.args.limit c.requires.kernel c.requires.shape in let f = to_z-of_z w64 c.args.limit c.ranges.limit in omega (arith, ints)

pub told_same-requires-clause-first : goal.told_same-requires-clause-first
told_same-requires-clause-first c = (same_places c.args.k.now c.args.b.now c.args.lit c.args.x c.args.y c.args.limit c.requires.kernel c.requires.proper c.requires.shape).first

pub told_same-requires-clause-second : goal.told_same-requires-clause-second
told_same-requires-clause-second c = (same_places c.args.k.now c.args.b.now c.args.lit c.args.x c.args.y c.args.limit c.requires.kernel c.requires.proper c.requires.shape).second

pub told_same-requires-clause-proper_first : goal.told_same-requires-clause-proper_first
told_same-requires-clause-proper_first c = (same_places c.args.k.now c.args.b.now c.args.lit c.args.x c.args.y c.args.limit c.requires.kernel c.requires.proper c.requires.shape).first_proper

pub told_same-requires-clause-proper_second : goal.told_same-requires-clause-proper_second
told_same-requires-clause-proper_second c = (same_places c.args.k.now c.args.b.now c.args.lit c.args.x c.args.y c.args.limit c.requires.kernel c.requires.proper c.requires.shape).second_proper

pub returns-then-fall-ge0 : goal.returns-then-fall-ge0
returns-then-fall-ge0 c =
    let k = c.args.k.now in
    let b = c.args.b.now in
    let x = c.args.x in
    let y = c.args.y in
    let p = c.difference-pair.result in
    let terms = c.difference-pair.ensures in
    let rise_fits : FitsSigned w64 c.left-rise.result = search rules in
    let fall_fits : FitsSigned w64 c.left-fall.result = search rules in
    let limit = to_z-of_z w64 c.args.limit c.ranges.limit in
    let least = coded_of p.first.least p.second.least c.sum-least.result c.sum-least.ensures terms.first.small.least terms.second.small.least in
    let greatest = coded_of p.first.greatest p.second.greatest c.sum-greatest.result c.sum-greatest.ensures terms.first.small.greatest terms.second.small.greatest in
    let rise : to_z w64 (of_z w64 c.left-rise.result) ≡ c.args.limit -ℤ (p.first.least +ℤ p.second.least) = to_z-of_z w64 c.left-rise.result rise_fits ∙ c.left-rise.ensures ∙ (λ i. limit i -ℤ least i) in
    let fall : to_z w64 (of_z w64 c.left-fall.result) ≡ (p.first.greatest +ℤ p.second.greatest) -ℤ c.args.limit = to_z-of_z w64 c.left-fall.result fall_fits ∙ c.left-fall.ensures ∙ (λ i. greatest i -ℤ limit i) in
    let low : pos 0 ≤ℤ to_z w64 (of_z w64 c.left-rise.result) = search rules in
    let high : pos 0 ≤ℤ to_z w64 (of_z w64 c.left-fall.result) = search rules in
    let told = same_held c.law_quotient_order.ensures c.law_clamp_order.ensures b k c.args.lit x y c.args.limit p terms c.requires.sure c.args.x_first
    c.requires.order (no_less _ _ _ low rise) (no_less _ _ _ high fall) in
    let F : ℤ → ℤ → List Tell = λ r q. ordered_tells c.args.x_first (narrowing b (room_tells b (room_of r q) (pos 1, x))) (narrowing b (room_tells b (room_of r q) (negsuc 0, y))) in
    let read = subst (λ (q : ℤ). AreFew (F (c.args.limit -ℤ (p.first.least +ℤ p.second.least)) q) c.told_same.result) fall (subst (λ (r : ℤ). AreFew (F r (to_z w64 (of_z w64 c.left-fall.result))) c.told_same.result) rise c.told_same.ensures) in
    few_seen k b _ (subst (λ (ts : List Tell). AreFew ts c.told_same.result) (sym told) read)
