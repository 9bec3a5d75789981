-- The bound that is told narrows the box, and the other three don't.
use Rattle.std.proofs.Common.{◌≡◌, ◌∙◌, [], ◌∷◌, ℤ, ◌+ℤ◌, ◌-ℤ◌, sym, subst, arith}
use Rattle.std.proofs.lemmas.Bool.{true≢false}
use Rattle.std.proofs.lemmas.Int.{ints, to_z-of_z}
use mir.Syntax.{w64}
use Rattle.interval.specs.Limits.{IsBound, bound_limit, largest_number}
use Rattle.interval.specs.Boxes.{low_of, high_of}
use Rattle.tell_laws.specs.Narrowing.{narrowing}
use Rattle.guarded_tell.specs.Words.{low_tell, high_tell}
use Rattle.seen_tells.proofs.HeldLaws.{high_of_x, low_of_x, low_of_y, high_of_y}
use Rattle.seen_tells.proofs.held.sole_of_four.Goals as goal
use Rattle.seen_tells.proofs.held.sole_of_four.Goals.{then-rise-y_width, else-rise-y_width, then-fall-x_width, else-fall-x_width, then-fall-x_width-2, else-fall-x_width-2}

pub sole_high-requires-clause-narrows : goal.sole_high-requires-clause-narrows
unfolding bound_limit largest_number
sole_high-requires-clause-narrows c =
    let p = c.low.ensures.in_range in let q = c.high.ensures.in_range in
    let low = c.low.ensures.value in let high = c.high.ensures.value in
    let width = c.gap-x_width.ensures in let r = c.ranges.rise in let test = c.if-rise-x_width.true in
    omega (arith, ints)

pub sole_low-requires-clause-narrows : goal.sole_low-requires-clause-narrows
unfolding bound_limit largest_number
sole_low-requires-clause-narrows c =
    let p = c.low-2.ensures.in_range in let q = c.high-2.ensures.in_range in
    let low = c.low-2.ensures.value in let high = c.high-2.ensures.value in
    let width = c.gap-y_width.ensures in let r = c.ranges.rise in let test = c.if-rise-y_width-2.true in
    omega (arith, ints)

pub sole_low-requires-else-fall-y_width-3-clause-narrows : goal.sole_low-requires-else-fall-y_width-3-clause-narrows
unfolding bound_limit largest_number
sole_low-requires-else-fall-y_width-3-clause-narrows c =
    let p = c.low.ensures.in_range in let q = c.high.ensures.in_range in
    let low = c.low.ensures.value in let high = c.high.ensures.value in
    let width = c.gap-x_width.ensures in let r = c.ranges.fall in let test = c.if-fall-x_width-3.true in
    omega (arith, ints)

pub sole_high-requires-then-fall-y_width-4-clause-narrows : goal.sole_high-requires-then-fall-y_width-4-clause-narrows
unfolding bound_limit largest_number
sole_high-requires-then-fall-y_width-4-clause-narrows c =
    let p = c.low-2.ensures.in_range in let q = c.high-2.ensures.in_range in
    let low = c.low-2.ensures.value in let high = c.high-2.ensures.value in
    let width = c.gap-y_width.ensures in let r = c.ranges.fall in let test = c.if-fall-y_width-4.true in
    omega (arith, ints)

pub returns-else-fall-y_width : goal.returns-else-fall-y_width
unfolding bound_limit largest_number
returns-else-fall-y_width c =
    let B : ℤ → Type 0 = λ z. IsBound z in
    let xl = c.low.ensures.in_range in let xh = c.high.ensures.in_range in let yl = c.low-2.ensures.in_range in let yh = c.high-2.ensures.in_range in
    let x_low = c.low.ensures.value in let x_high = c.high.ensures.value in let y_low = c.low-2.ensures.value in let y_high = c.high-2.ensures.value in
    let wx = c.gap-x_width.ensures in let wy = c.gap-y_width.ensures in
    let r = c.ranges.rise in let q = c.ranges.fall in
    elim c.if-fall-x_width.branch [
      | then-fall-x_width w ↦ absurd (true≢false (sym w.if-fall-x_width.true ∙ sym w.value-is ∙ c.if-fall-y_width.false))
      | else-fall-x_width w ↦ elim c.if-rise-y_width.branch [
        | then-rise-y_width v ↦ absurd (true≢false (sym v.if-rise-y_width.true ∙ sym v.value-is ∙ w.if-fall-x_width.false))
        | else-rise-y_width v ↦ (
            let third = sym w.value-is ∙ c.if-fall-y_width.false in let second = sym v.value-is ∙ w.if-fall-x_width.false in let first = v.if-rise-y_width.false in
            high_of_x c.law_quotient_order.ensures c.law_clamp_order.ensures c.args.b.now c.args.x c.args.y c.args.rise c.args.fall c.requires.proper_first c.requires.proper_second
            (subst B c.low.ensures.value xl) (subst B c.high.ensures.value xh) (subst B c.low-2.ensures.value yl) (subst B c.high-2.ensures.value yh)
            c.sole_high.result c.sole_high.ensures.last (subst (λ (z : ℤ). narrowing c.args.b.now (high_tell c.args.x (low_of c.args.b.now c.args.x +ℤ z) ∷ []) ≡ c.sole_high.result.tell ∷ []) (to_z-of_z w64 c.args.rise c.ranges.rise) c.sole_high.ensures.one)
            (omega (arith, ints)) (omega (arith, ints)) (omega (arith, ints)))
      ]
    ]

pub returns-else-fall-y_width-2 : goal.returns-else-fall-y_width-2
unfolding bound_limit largest_number
returns-else-fall-y_width-2 c =
    let B : ℤ → Type 0 = λ z. IsBound z in
    let xl = c.low.ensures.in_range in let xh = c.high.ensures.in_range in let yl = c.low-2.ensures.in_range in let yh = c.high-2.ensures.in_range in
    let x_low = c.low.ensures.value in let x_high = c.high.ensures.value in let y_low = c.low-2.ensures.value in let y_high = c.high-2.ensures.value in
    let wx = c.gap-x_width.ensures in let wy = c.gap-y_width.ensures in
    let r = c.ranges.rise in let q = c.ranges.fall in
    elim c.if-fall-x_width-2.branch [
      | then-fall-x_width-2 w ↦ absurd (true≢false (sym w.if-fall-x_width-2.true ∙ sym w.value-is ∙ c.if-fall-y_width-2.false))
      | else-fall-x_width-2 w ↦ (
          let third = sym w.value-is ∙ c.if-fall-y_width-2.false in let second = w.if-fall-x_width-2.false in let first = c.if-rise-x_width.false in
          low_of_y c.law_quotient_order.ensures c.law_clamp_order.ensures c.args.b.now c.args.x c.args.y c.args.rise c.args.fall c.requires.proper_first c.requires.proper_second
          (subst B c.low.ensures.value xl) (subst B c.high.ensures.value xh) (subst B c.low-2.ensures.value yl) (subst B c.high-2.ensures.value yh)
          c.sole_low.result c.sole_low.ensures.last (subst (λ (z : ℤ). narrowing c.args.b.now (low_tell c.args.y (high_of c.args.b.now c.args.y -ℤ z) ∷ []) ≡ c.sole_low.result.tell ∷ []) (to_z-of_z w64 c.args.rise c.ranges.rise) c.sole_low.ensures.one)
          (omega (arith, ints)) (omega (arith, ints)) (omega (arith, ints)))
    ]

pub returns-else-fall-y_width-3 : goal.returns-else-fall-y_width-3
unfolding bound_limit largest_number
returns-else-fall-y_width-3 c =
    let B : ℤ → Type 0 = λ z. IsBound z in
    let xl = c.low.ensures.in_range in let xh = c.high.ensures.in_range in let yl = c.low-2.ensures.in_range in let yh = c.high-2.ensures.in_range in
    let x_low = c.low.ensures.value in let x_high = c.high.ensures.value in let y_low = c.low-2.ensures.value in let y_high = c.high-2.ensures.value in
    let wx = c.gap-x_width.ensures in let wy = c.gap-y_width.ensures in
    let r = c.ranges.rise in let q = c.ranges.fall in
    let first = c.if-rise-x_width.false in let second = c.if-rise-y_width-2.false in let third = c.if-fall-y_width-3.false in
    low_of_x c.law_quotient_order.ensures c.law_clamp_order.ensures c.args.b.now c.args.x c.args.y c.args.rise c.args.fall c.requires.proper_first c.requires.proper_second
    (subst B c.low.ensures.value xl) (subst B c.high.ensures.value xh) (subst B c.low-2.ensures.value yl) (subst B c.high-2.ensures.value yh)
    c.sole_low-else-fall-y_width-3.result c.sole_low-else-fall-y_width-3.ensures.last (subst (λ (z : ℤ). narrowing c.args.b.now (low_tell c.args.x (high_of c.args.b.now c.args.x -ℤ z) ∷ []) ≡ c.sole_low-else-fall-y_width-3.result.tell ∷ []) (to_z-of_z w64 c.args.fall c.ranges.fall) c.sole_low-else-fall-y_width-3.ensures.one)
    (omega (arith, ints)) (omega (arith, ints)) (omega (arith, ints))

pub returns-then-fall-y_width-4 : goal.returns-then-fall-y_width-4
unfolding bound_limit largest_number
returns-then-fall-y_width-4 c =
    let B : ℤ → Type 0 = λ z. IsBound z in
    let xl = c.low.ensures.in_range in let xh = c.high.ensures.in_range in let yl = c.low-2.ensures.in_range in let yh = c.high-2.ensures.in_range in
    let x_low = c.low.ensures.value in let x_high = c.high.ensures.value in let y_low = c.low-2.ensures.value in let y_high = c.high-2.ensures.value in
    let wx = c.gap-x_width.ensures in let wy = c.gap-y_width.ensures in
    let r = c.ranges.rise in let q = c.ranges.fall in
    let first = c.if-rise-x_width.false in let second = c.if-rise-y_width-2.false in let third = c.if-fall-x_width-3.false in
    high_of_y c.law_quotient_order.ensures c.law_clamp_order.ensures c.args.b.now c.args.x c.args.y c.args.rise c.args.fall c.requires.proper_first c.requires.proper_second
    (subst B c.low.ensures.value xl) (subst B c.high.ensures.value xh) (subst B c.low-2.ensures.value yl) (subst B c.high-2.ensures.value yh)
    c.sole_high-then-fall-y_width-4.result c.sole_high-then-fall-y_width-4.ensures.last (subst (λ (z : ℤ). narrowing c.args.b.now (high_tell c.args.y (low_of c.args.b.now c.args.y +ℤ z) ∷ []) ≡ c.sole_high-then-fall-y_width-4.result.tell ∷ []) (to_z-of_z w64 c.args.fall c.ranges.fall) c.sole_high-then-fall-y_width-4.ensures.one)
    (omega (arith, ints)) (omega (arith, ints)) (omega (arith, ints))
