-- The numbers of the declared variables, one by one.
use Rattle.std.proofs.Common.{◌≡◌, ℕ, zero, suc, ℤ, pos, ◌+◌, ◌<◌, [], ◌∷◌, ◌++◌, length, take, drop, refl, ap, ◌∙◌, arith, length-drop}
use Rattle.std.proofs.lemmas.List.{take_more, get_or-drop, length-map}
use Rattle.interval.specs.Boxes.{Bounds, low_of}
use Rattle.guarded_tell.specs.Words.{value_of, point_of}

low_point : (b : Bounds) (v : ℕ) → value_of (point_of b) v ≡ low_of b v
low_point [] v = refl
low_point (p ∷ b) zero = refl
low_point (p ∷ b) (suc v) = low_point b v

point_length : (b : Bounds) → length (point_of b) ≡ length b
point_length b = length-map {B = ℤ} b (λ p. p.0)

pub values_more : (b : Bounds) (i : ℕ) → i + 1 < length b → take (i + 1) (drop 1 (point_of b)) ≡ take i (drop 1 (point_of b)) ++ low_of b (i + 1) ∷ []
values_more b i h =
    let one : 1 + i ≡ i + 1 = omega arith in
    take_more (drop 1 (point_of b)) i (pos 0) (omega (arith, length-drop 1 (point_of b), point_length b))
    ∙ ap (λ (z : ℤ). take i (drop 1 (point_of b)) ++ z ∷ []) (get_or-drop 1 (point_of b) i (pos 0) ∙ ap (value_of (point_of b)) one ∙ low_point b (i + 1))
