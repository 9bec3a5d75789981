-- The range isn't overfull; and where it is full, no other place of either half has a low or a high in it.
use Rattle.std.proofs.Common.{bit_and, ◌+◌, Bool, true, false, sym, ◌∙◌}
use Rattle.std.specs.Bool.{OnTrue}
use Rattle.std.proofs.lemmas.Bool.{both_ways, OnTrue_at, OnTrue_from}
use Rattle.interval.specs.Boxes.{low_of, high_of}
use Rattle.global_tells.proofs.QuietLaws.{halves_none, when_none}
use Rattle.global_tells.proofs.halves.is_untold_by_halves.Goals as goal

pub returns-then-not-has_numbers : goal.returns-then-not-has_numbers
returns-then-not-has_numbers c = λ xs ys e f d g. when_none _ _ (λ t. absurd (both_ways _ (sym c.has_numbers.ensures ∙ c.if-not-has_numbers.true) t))

pub returns-then-not-is_full : goal.returns-then-not-is_full
returns-then-not-is_full c = λ xs ys e f d g.
    let b = c.args.b.now in
    halves_none b xs ys (low_of b c.args.ends.first) (high_of b c.args.ends.last) c.args.front.now.from c.args.front.now.upto e f c.args.back.now.from c.args.back.now.upto d g
    _ (λ i. c.count_inside-front_count.ensures.value i + c.count_inside-back_count.ensures.value i)
    (sym c.is_overfull.ensures ∙ c.if-is_overfull.false)
    (λ t. absurd (both_ways _ (sym c.is_full.ensures ∙ c.if-not-is_full.true) t))

pub returns : goal.returns
returns c = OnTrue_from c.has_no_others-2.result _ (λ t xs ys e f d g.
    let b = c.args.b.now in
    halves_none b xs ys (low_of b c.args.ends.first) (high_of b c.args.ends.last) c.args.front.now.from c.args.front.now.upto e f c.args.back.now.from c.args.back.now.upto d g
    _ (λ i. c.count_inside-front_count.ensures.value i + c.count_inside-back_count.ensures.value i)
    (sym c.is_overfull.ensures ∙ c.if-is_overfull.false)
    (λ full. (
      (OnTrue_at c.if-not-has_no_others.false c.has_no_others.ensures.lows, OnTrue_at c.if-not-has_no_others.false c.has_no_others.ensures.highs),
      (OnTrue_at t c.has_no_others-2.ensures.lows, OnTrue_at t c.has_no_others-2.ensures.highs),
    )))
