-- The sums are those of the kernel, and say what it tells.
use Rattle.std.proofs.Common.{◌≡◌, ◌∙◌, ◌-ℤ◌, ◌≤ℤ◌, ℤ, pos, List, FitsSigned, to_z, of_z, sym, subst, rules, arith}
use Rattle.std.proofs.lemmas.Int.{ints, to_z-of_z}
use Rattle.std.specs.List.{zip, flat_map}
use mir.Syntax.{w64}
use Rattle.tells.specs.declared.tell.Tell.{Tell}
use Rattle.interval.specs.Limits.{largest_number}
use Rattle.sum_tells.specs.Linear.{Term}
use Rattle.tell_laws.specs.Narrowing.{narrowing}
use Rattle.short_tells.specs.ShortTells.{room_tells}
use Rattle.small_sums.specs.Short.{short_sum_limit}
use Rattle.small_sums.proofs.SlightLaws.{short_fits_sum}
use Rattle.seen_tells.specs.Few.{AreFew}
use Rattle.kernel_visits.specs.Shapes.{units_of, places_of}
use Rattle.seen_tells.specs.Three.{room_of}
use Rattle.seen_tells.proofs.FewLaws.{few_seen}
use Rattle.seen_tells.proofs.ThreeLaws.{no_less, three_number, three_placed, three_quiet, three_settled, three_told}
use Rattle.seen_tells.proofs.three.seen_sure.Goals as goal

pub spans_of-requires : goal.spans_of-requires
spans_of-requires c = three_placed c.args.k.now c.args.b.now c.args.lit c.args.terms c.args.limit c.requires.kernel c.requires.equation c.requires.proper

pub left-rise-requires-clause-whole : goal.left-rise-requires-clause-whole
unfolding short_sum_limit largest_number
left-rise-requires-clause-whole c = let n = three_number c.args.k.now c.args.b.now c.args.lit c.args.terms c.args.limit c.requires.kernel c.requires.equation in let f = to_z-of_z w64 c.args.limit c.ranges.limit in omega (arith, ints)

pub left-rise-requires-clause-part : goal.left-rise-requires-clause-part
unfolding short_sum_limit
left-rise-requires-clause-part c = let h = c.sums_of-sums.ensures.short_least in omega (arith, ints)

pub left-fall-requires-clause-whole : goal.left-fall-requires-clause-whole
unfolding short_sum_limit
left-fall-requires-clause-whole c = let h = c.sums_of-sums.ensures.short_greatest in omega (arith, ints)

pub left-fall-requires-clause-part : goal.left-fall-requires-clause-part
unfolding short_sum_limit largest_number
left-fall-requires-clause-part c = let n = three_number c.args.k.now c.args.b.now c.args.lit c.args.terms c.args.limit c.requires.kernel c.requires.equation in let f = to_z-of_z w64 c.args.limit c.ranges.limit in omega (arith, ints)

pub told-requires-clause-places : goal.told-requires-clause-places
told-requires-clause-places c = three_placed c.args.k.now c.args.b.now c.args.lit c.args.terms c.args.limit c.requires.kernel c.requires.equation c.requires.proper

pub returns-then-fall-le0 : goal.returns-then-fall-le0
returns-then-fall-le0 c =
    let k = c.args.k.now in
    let b = c.args.b.now in
    let s = c.sums_of-sums.result in
    let e = c.sums_of-sums.ensures in
    let rise_fits : FitsSigned w64 c.left-rise.result = search rules in
    let fall_fits : FitsSigned w64 c.left-fall.result = search rules in
    let limit = to_z-of_z w64 c.args.limit c.ranges.limit in
    let least = to_z-of_z w64 s.least (short_fits_sum s.least e.short_least) in
    let greatest = to_z-of_z w64 s.greatest (short_fits_sum s.greatest e.short_greatest) in
    let rise : to_z w64 (of_z w64 c.left-rise.result) ≡ c.args.limit -ℤ s.least = to_z-of_z w64 c.left-rise.result rise_fits ∙ c.left-rise.ensures ∙ (λ i. limit i -ℤ least i) in
    let fall : to_z w64 (of_z w64 c.left-fall.result) ≡ s.greatest -ℤ c.args.limit = to_z-of_z w64 c.left-fall.result fall_fits ∙ c.left-fall.ensures ∙ (λ i. greatest i -ℤ limit i) in
    let widest_fits : FitsSigned w64 s.widest = search rules in
    let widest = to_z-of_z w64 s.widest widest_fits in
    let up = c.if-sums-rise.true in
    let down = c.if-sums-fall.true in
    let low = c.if-rise-le0.true in
    let high = c.if-fall-le0.true in
    three_settled k b c.args.lit c.args.terms c.args.limit c.requires.kernel c.requires.equation c.spans_of.result c.spans_of.ensures.terms s e.least e.greatest e.x e.y e.z
    c.law_quotient_order.ensures c.law_clamp_order.ensures c.requires.sure
    (omega (arith, ints)) (omega (arith, ints)) (omega (arith, ints)) (omega (arith, ints))

pub returns-else-rise-le0 : goal.returns-else-rise-le0
returns-else-rise-le0 c =
    let k = c.args.k.now in
    let b = c.args.b.now in
    let s = c.sums_of-sums.result in
    let e = c.sums_of-sums.ensures in
    let rise_fits : FitsSigned w64 c.left-rise.result = search rules in
    let fall_fits : FitsSigned w64 c.left-fall.result = search rules in
    let limit = to_z-of_z w64 c.args.limit c.ranges.limit in
    let least = to_z-of_z w64 s.least (short_fits_sum s.least e.short_least) in
    let greatest = to_z-of_z w64 s.greatest (short_fits_sum s.greatest e.short_greatest) in
    let rise : to_z w64 (of_z w64 c.left-rise.result) ≡ c.args.limit -ℤ s.least = to_z-of_z w64 c.left-rise.result rise_fits ∙ c.left-rise.ensures ∙ (λ i. limit i -ℤ least i) in
    let fall : to_z w64 (of_z w64 c.left-fall.result) ≡ s.greatest -ℤ c.args.limit = to_z-of_z w64 c.left-fall.result fall_fits ∙ c.left-fall.ensures ∙ (λ i. greatest i -ℤ limit i) in
    let widest_fits : FitsSigned w64 s.widest = search rules in
    let widest = to_z-of_z w64 s.widest widest_fits in
    let up = c.if-sums-rise.true in
    let down = c.if-sums-fall.true in
    three_quiet k b c.args.lit c.args.terms c.args.limit c.requires.kernel c.requires.equation c.spans_of.result c.spans_of.ensures.terms s e.least e.greatest e.x e.y e.z
    c.law_quotient_order.ensures c.law_clamp_order.ensures c.requires.sure
    (omega (arith, ints)) (omega (arith, ints))

pub returns-then-fall-ge0 : goal.returns-then-fall-ge0
returns-then-fall-ge0 c =
    let k = c.args.k.now in
    let b = c.args.b.now in
    let s = c.sums_of-sums.result in
    let e = c.sums_of-sums.ensures in
    let rise_fits : FitsSigned w64 c.left-rise.result = search rules in
    let fall_fits : FitsSigned w64 c.left-fall.result = search rules in
    let limit = to_z-of_z w64 c.args.limit c.ranges.limit in
    let least = to_z-of_z w64 s.least (short_fits_sum s.least e.short_least) in
    let greatest = to_z-of_z w64 s.greatest (short_fits_sum s.greatest e.short_greatest) in
    let rise : to_z w64 (of_z w64 c.left-rise.result) ≡ c.args.limit -ℤ s.least = to_z-of_z w64 c.left-rise.result rise_fits ∙ c.left-rise.ensures ∙ (λ i. limit i -ℤ least i) in
    let fall : to_z w64 (of_z w64 c.left-fall.result) ≡ s.greatest -ℤ c.args.limit = to_z-of_z w64 c.left-fall.result fall_fits ∙ c.left-fall.ensures ∙ (λ i. greatest i -ℤ limit i) in
    let low : pos 0 ≤ℤ to_z w64 (of_z w64 c.left-rise.result) = search rules in
    let high : pos 0 ≤ℤ to_z w64 (of_z w64 c.left-fall.result) = search rules in
    let told = three_told k b c.args.lit c.args.terms c.args.limit c.requires.kernel c.requires.equation c.spans_of.result c.spans_of.ensures.terms s e.least e.greatest e.x e.y e.z
    c.law_quotient_order.ensures c.law_clamp_order.ensures c.requires.sure
    (no_less _ _ _ low rise) (no_less _ _ _ high fall) in
    let F : ℤ → ℤ → List Tell = λ r q. flat_map (λ (u : Term). narrowing b (room_tells b (room_of r q) u)) (zip (units_of c.args.terms) (places_of c.args.terms)) in
    let read = subst (λ (q : ℤ). AreFew (F (c.args.limit -ℤ s.least) q) c.told.result) fall (subst (λ (r : ℤ). AreFew (F r (to_z w64 (of_z w64 c.left-fall.result))) c.told.result) rise c.told.ensures) in
    few_seen k b _ (subst (λ (ts : List Tell). AreFew ts c.told.result) (sym told) read)
