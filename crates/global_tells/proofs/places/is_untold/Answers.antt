-- The range isn't overfull; and where it is full, no other place has a low or a high in it.
use Rattle.std.proofs.Common.{bit_and, Bool, true, false, sym, ◌∙◌}
use Rattle.std.specs.Bool.{OnTrue}
use Rattle.std.proofs.lemmas.Bool.{both_ways}
use Rattle.interval.specs.Boxes.{low_of, high_of}
use Rattle.global_tells.specs.Places.{IsWithin}
use Rattle.global_tells.proofs.QuietLaws.{sets_none, when_none}
use Rattle.global_tells.proofs.places.is_untold.Goals as goal

on_both : {A B C : Type 0} (r : Bool) → OnTrue r A → OnTrue r B → (A → B → C) → OnTrue r C
on_both true a b f = f a b
on_both false a b f = tt

pub returns-then-not-has_numbers : goal.returns-then-not-has_numbers
returns-then-not-has_numbers c = λ xs e f. when_none _ _ (λ t. absurd (both_ways _ (sym c.has_numbers.ensures ∙ c.if-not-has_numbers.true) t))

pub returns-then-not-is_full : goal.returns-then-not-is_full
returns-then-not-is_full c = λ xs e f.
    let b = c.args.b.now in
    sets_none b xs (low_of b c.args.ends.first) (high_of b c.args.ends.last) c.args.from.now c.args.upto.now e f
    c.count_inside-count.result c.count_inside-count.ensures.value
    (sym c.is_overfull.ensures ∙ c.if-is_overfull.false)
    (λ t. absurd (both_ways _ (sym c.is_full.ensures ∙ c.if-not-is_full.true) t))

pub returns : goal.returns
returns c =
    let b = c.args.b.now in
    let from = c.args.from.now in
    let upto = c.args.upto.now in
    on_both c.has_no_others.result c.has_no_others.ensures.lows c.has_no_others.ensures.highs
    (λ (lows : IsWithin (bit_and from.lows upto.lows) (bit_and from.lows upto.highs)) (highs : IsWithin (bit_and from.highs upto.highs) (bit_and from.lows upto.highs)) xs e f.
    sets_none b xs (low_of b c.args.ends.first) (high_of b c.args.ends.last) from upto e f
    c.count_inside-count.result c.count_inside-count.ensures.value
    (sym c.is_overfull.ensures ∙ c.if-is_overfull.false)
    (λ t. (lows, highs)))
