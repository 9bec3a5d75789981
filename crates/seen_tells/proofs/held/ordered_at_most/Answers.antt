-- The sum of the least values leaves the terms their room.
use Rattle.std.proofs.Common.{◌≡◌, ◌∙◌, ◌-ℤ◌, ◌+ℤ◌, ◌≤ℤ◌, ℤ, pos, [], ◌∷◌, List, FitsSigned, to_z, of_z, sym, subst, rules, arith}
use Rattle.std.proofs.lemmas.Int.{ints, to_z-of_z}
use mir.Syntax.{w64}
use Rattle.tells.specs.declared.tell.Tell.{Tell}
use Rattle.interval.specs.Limits.{largest_number}
use Rattle.tell_laws.specs.Narrowing.{narrowing}
use Rattle.small_sums.specs.Short.{short_sum_limit}
use Rattle.seen_tells.specs.Few.{AreFew}
use Rattle.seen_tells.specs.Held.{ordered_tells}
use Rattle.interval.specs.Boxes.{low_of, high_of}
use Rattle.guarded_tell.specs.Words.{low_tell, high_tell}
use Rattle.kernel_visits.proofs.ShapeQuiet.{at_most_places}
use Rattle.seen_tells.proofs.DifferenceLaws.{at_most_number, coded_of, short_least}
use Rattle.seen_tells.proofs.ThreeLaws.{no_less}
use Rattle.seen_tells.proofs.FewLaws.{few_seen}
use Rattle.seen_tells.proofs.HeldLaws.{at_most_held}
use Rattle.seen_tells.proofs.held.ordered_at_most.Goals as goal

pub difference-pair-requires-clause-first : goal.difference-pair-requires-clause-first
difference-pair-requires-clause-first c = (at_most_places c.args.k.now c.args.b.now c.args.lit c.args.x c.args.y c.args.limit c.requires.kernel c.requires.proper c.requires.shape).first

pub difference-pair-requires-clause-second : goal.difference-pair-requires-clause-second
difference-pair-requires-clause-second c = (at_most_places c.args.k.now c.args.b.now c.args.lit c.args.x c.args.y c.args.limit c.requires.kernel c.requires.proper c.requires.shape).second

pub difference-pair-requires-clause-proper_first : goal.difference-pair-requires-clause-proper_first
difference-pair-requires-clause-proper_first c = (at_most_places c.args.k.now c.args.b.now c.args.lit c.args.x c.args.y c.args.limit c.requires.kernel c.requires.proper c.requires.shape).first_proper

pub difference-pair-requires-clause-proper_second : goal.difference-pair-requires-clause-proper_second
difference-pair-requires-clause-proper_second c = (at_most_places c.args.k.now c.args.b.now c.args.lit c.args.x c.args.y c.args.limit c.requires.kernel c.requires.proper c.requires.shape).second_proper

pub left-rise-requires-clause-whole : goal.left-rise-requires-clause-whole
unfolding short_sum_limit largest_number
left-rise-requires-clause-whole c = let n = at_most_number c.args.k.now _ c.args.lit c.args.x c.args.y c.args.limit c.requires.kernel c.requires.shape in let f = to_z-of_z w64 c.args.limit c.ranges.limit in omega (arith, ints)

pub left-rise-requires-clause-part : goal.left-rise-requires-clause-part
left-rise-requires-clause-part c =
    let p = c.difference-pair.result in
    let terms = c.difference-pair.ensures in
    short_least c.args.b.now c.args.x c.args.y p terms _ (coded_of p.first.least p.second.least c.sum-least.result c.sum-least.ensures terms.first.small.least terms.second.small.least)

pub told_at_most-requires-clause-first : goal.told_at_most-requires-clause-first
told_at_most-requires-clause-first c = (at_most_places c.args.k.now c.args.b.now c.args.lit c.args.x c.args.y c.args.limit c.requires.kernel c.requires.proper c.requires.shape).first

pub told_at_most-requires-clause-second : goal.told_at_most-requires-clause-second
told_at_most-requires-clause-second c = (at_most_places c.args.k.now c.args.b.now c.args.lit c.args.x c.args.y c.args.limit c.requires.kernel c.requires.proper c.requires.shape).second

pub returns-then-rise-ge0 : goal.returns-then-rise-ge0
returns-then-rise-ge0 c =
    let k = c.args.k.now in
    let b = c.args.b.now in
    let x = c.args.x in
    let y = c.args.y in
    let places = (at_most_places c.args.k.now c.args.b.now c.args.lit c.args.x c.args.y c.args.limit c.requires.kernel c.requires.proper c.requires.shape) in
    let p = c.difference-pair.result in
    let terms = c.difference-pair.ensures in
    let rise_fits : FitsSigned w64 c.left-rise.result = search rules in
    let limit = to_z-of_z w64 c.args.limit c.ranges.limit in
    let least = coded_of p.first.least p.second.least c.sum-least.result c.sum-least.ensures terms.first.small.least terms.second.small.least in
    let rise : to_z w64 (of_z w64 c.left-rise.result) ≡ c.args.limit -ℤ (p.first.least +ℤ p.second.least) = to_z-of_z w64 c.left-rise.result rise_fits ∙ c.left-rise.ensures ∙ (λ i. limit i -ℤ least i) in
    let low : pos 0 ≤ℤ to_z w64 (of_z w64 c.left-rise.result) = search rules in
    let told = at_most_held c.law_quotient_order.ensures c.law_clamp_order.ensures b k c.args.lit x y c.args.limit p terms c.requires.sure c.args.x_first
    places.first_proper places.second_proper c.requires.order (no_less _ _ _ low rise) in
    let F : ℤ → List Tell = λ r. ordered_tells c.args.x_first (narrowing b (high_tell x (low_of b x +ℤ r) ∷ [])) (narrowing b (low_tell y (high_of b y -ℤ r) ∷ [])) in
    let read = subst (λ (r : ℤ). AreFew (F r) c.told_at_most.result) rise c.told_at_most.ensures in
    few_seen k b _ (subst (λ (ts : List Tell). AreFew ts c.told_at_most.result) (sym told) read)
