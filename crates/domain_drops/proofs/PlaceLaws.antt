-- The places of a list whose variable can't equal another.
use Rattle.std.proofs.Common.{◌≡◌, ◌≢◌, ℕ, zero, suc, ◌+◌, ◌<◌, Bool, true, false, not, ◌&&◌, ◌||◌, List, [], ◌∷◌, length, get_or, ℤ, pos, refl, sym, ap, ◌∙◌, arith}
use Rattle.std.proofs.lemmas.Int.{ints}
use Rattle.std.proofs.lemmas.Bool.Decides.{Decides-int_eq}
use Rattle.std.specs.Ordering.{int_eq}
use Rattle.std.specs.List.{enumerate_from, list_any}
use Rattle.interval.specs.Boxes.{Bounds}
use Rattle.element_tells.specs.Element.{can_equal}
use Rattle.domain_drops.specs.Removals.{is_place_apart}
use Rattle.domain_drops.proofs.ProductLaws.{by_bool}

pub int_ne : (y z : ℤ) → y ≢ z → int_eq y z ≡ false
int_ne y z ne = by_bool (int_eq y z) (λ e. absurd (ne ((Decides-int_eq y z).0 e))) (λ e. e)

or_none : (t : Bool) → (t || false) ≡ t
or_none true = refl
or_none false = refl

module _ (c : ℕ) (b : Bounds) (z : ℤ) where
  abbrev apart : ℕ × ℕ → Bool
  apart p = int_eq z (pos p.0) && not (can_equal p.1 c b)

  none_apart : (k : ℕ) (ys : List ℕ) → ((i : ℕ) → i < length ys → z ≢ pos (k + i)) → list_any apart (enumerate_from k ys) ≡ false
  none_apart k [] h = refl
  none_apart k (y ∷ ys) h =
      let here : int_eq z (pos k) ≡ false = int_ne z (pos k) (λ e. h 0 (omega arith) (let same : k ≡ k + 0 = omega arith in e ∙ ap pos same)) in
      let rest = none_apart (k + 1) ys (λ i l e. h (suc i) (omega arith) (let same : k + suc i ≡ k + 1 + i = omega arith in e ∙ ap pos (sym same))) in
      (λ i. (here i && not (can_equal y c b)) || rest i)

  apart_at : (k i : ℕ) (ys : List ℕ) → i < length ys → z ≡ pos (k + i) → list_any apart (enumerate_from k ys) ≡ not (can_equal (get_or ys i 0) c b)
  apart_at k i [] l e = absurd (omega arith)
  apart_at k zero (y ∷ ys) l e =
      let here : int_eq z (pos k) ≡ true = (Decides-int_eq z (pos k)).1 (let same : k + 0 ≡ k = omega arith in e ∙ ap pos same) in
      let rest = none_apart (k + 1) ys (λ i l same. omega (arith, ints)) in
      (λ i. (here i && not (can_equal y c b)) || rest i) ∙ or_none (not (can_equal y c b))
  apart_at k (suc i) (y ∷ ys) l e =
      let here : int_eq z (pos k) ≡ false = int_ne z (pos k) (λ same. omega (arith, ints)) in
      let rest = apart_at (k + 1) i ys (omega arith) (let same : k + suc i ≡ k + 1 + i = omega arith in e ∙ ap pos same) in
      (λ i. (here i && not (can_equal y c b)) || rest i)

-- z is the place i, counted from 0, or no place
pub place_apart : (entries : List ℕ) (c : ℕ) (b : Bounds) (z : ℤ) (i : ℕ) → i < length entries → z ≡ pos (1 + i) → is_place_apart entries c b z ≡ not (can_equal (get_or entries i 0) c b)
unfolding is_place_apart
place_apart entries c b z i l e = apart_at c b z 1 i entries l e

pub no_place_apart : (entries : List ℕ) (c : ℕ) (b : Bounds) (z : ℤ) → ((i : ℕ) → i < length entries → z ≢ pos (1 + i)) → is_place_apart entries c b z ≡ false
unfolding is_place_apart
no_place_apart entries c b z h = none_apart c b z 1 entries h
