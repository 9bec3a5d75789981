-- The value of a variable at a point is its low.
use Rattle.std.proofs.Common.{◌≡◌, ℕ, ◌<◌, length, get_or, sym, ap, ◌∙◌, arith}
use Rattle.std.proofs.lemmas.List.{get_or_default}
use Rattle.interval.specs.Boxes.{low_of, high_of}
use Rattle.tells.specs.Words.{value_of, point_of}
use Rattle.global_tells.proofs.AllDifferentPoint.{closed_apart, apart_closed}
use Rattle.global_tells.proofs.PlaceLaws.{value-point}
use Rattle.global_tells.proofs.laws.law_all_different_point.Goals as goal

pub returns : goal.returns
returns c = λ xs b variables point.
    let fixed : (i : ℕ) → i < length xs → low_of b (get_or xs i 0) ≡ high_of b (get_or xs i 0) = (λ i h. point (get_or xs i 0) (variables.each i h)) in (
      λ closed. (λ i j d less l e.
          let at : (k : ℕ) → k < length xs → value_of (point_of b) (get_or xs k d) ≡ low_of b (get_or xs k 0) = (λ k h. ap (value_of (point_of b)) (get_or_default xs k d 0 h) ∙ value-point b (get_or xs k 0)) in
          closed_apart b xs fixed c.law_clamp_order.ensures closed i j less l (sym (at i (omega arith)) ∙ e ∙ at j l)),
      λ apart. apart_closed b xs fixed (λ i j less l e. apart i j 0 less l (value-point b (get_or xs i 0) ∙ e ∙ sym (value-point b (get_or xs j 0)))),
    )
