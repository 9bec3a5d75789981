-- Each step puts one more place in front.
use Rattle.std.proofs.Common.{ℕ, ◌+◌, ◌*◌, ◌^◌, ◌<◌, cond, sym, subst, ◌∙◌}
use Rattle.std.specs.Int.RustNames.{int_le}
use Rattle.interval.specs.Boxes.{low_of, high_of}
use Rattle.global_tells.proofs.SetLaws.{mask_of-none, mask_of-rest-lt, mask_of-next}
use Rattle.global_tells.proofs.places.places_from.Goals as goal

pub loop-i-init : goal.loop-i-init
loop-i-init c =
    (sym (mask_of-none (λ x. int_le (low_of c.args.b.now c.args.first) (low_of c.args.b.now x)) c.args.xs.now), sym (mask_of-none (λ x. int_le (low_of c.args.b.now c.args.first) (high_of c.args.b.now x)) c.args.xs.now))

pub with_place-lows-requires : goal.with_place-lows-requires
with_place-lows-requires c =
    let r = mask_of-rest-lt (λ x. int_le (low_of c.args.b.now c.args.first) (low_of c.args.b.now x)) c.args.xs.now c.loop-i.i c.loop-i-test.true c.requires.few in
    subst (λ (n : ℕ). n < 2 ^ 127) (sym c.loop-i.invariant.0) r

pub with_place-highs-requires : goal.with_place-highs-requires
with_place-highs-requires c =
    let r = mask_of-rest-lt (λ x. int_le (low_of c.args.b.now c.args.first) (high_of c.args.b.now x)) c.args.xs.now c.loop-i.i c.loop-i-test.true c.requires.few in
    subst (λ (n : ℕ). n < 2 ^ 127) (sym c.loop-i.invariant.1) r

pub loop-i-preserved : goal.loop-i-preserved
loop-i-preserved c =
    let i = c.loop-i.i in
    let xs = c.args.xs.now in
    let h = c.loop-i-test.true in (
      c.with_place-lows.ensures ∙ (λ k. cond (c.is_low_from.ensures k) 1 0 + 2 * (c.loop-i.invariant.0 k)) ∙ mask_of-next (λ x. int_le (low_of c.args.b.now c.args.first) (low_of c.args.b.now x)) xs i h,
      c.with_place-highs.ensures ∙ (λ k. cond (c.has_numbers.ensures k) 1 0 + 2 * (c.loop-i.invariant.1 k)) ∙ mask_of-next (λ x. int_le (low_of c.args.b.now c.args.first) (high_of c.args.b.now x)) xs i h,
    )
