-- Sums, terms and literals on a box inside a box, and at a point.
use Rattle.std.proofs.Common.{◌≡◌, ℕ, zero, suc, ◌+◌, ◌<◌, ◌≤◌, List, [], ◌∷◌, length, get_or, Bool, true, false, not, ◌&&◌, ℤ, pos, negsuc, ◌+ℤ◌, ◌-ℤ◌, ◌*ℤ◌, ◌≤ℤ◌, refl, sym, ap, subst, ◌∙◌, arith}
use Rattle.std.proofs.lemmas.Int.{ints, clamps}
use Rattle.std.proofs.lemmas.Bool.{and_parts}
use Rattle.std.proofs.Math.Nat.{mul-le-mul_left}
use Rattle.std.specs.Int.{int_min, int_max}
use Rattle.std.specs.List.{zip}
use borrow.Author.Differences.{up, down}
use Rattle.tells.specs.declared.tell.Lit.{Lit}
use Rattle.interval.specs.Boxes.{Bounds, low_of, high_of, IsPoint}
use Rattle.guarded_tell.specs.Words.{literal_true, sign_true, is_sure, is_out, value_of, point_of, AreVariables, IsProperIn, IsInsideIn, AgreeIn}
use Rattle.sum_tells.specs.Linear.{Term, least_of, greatest_of, sum_over, term_value}
use Rattle.domain_drops.proofs.TermLaws.{length-zip, get_or-zip}

-- ---- sums

pub sum_rises : (f g : Term → ℤ) (ts : List Term) (e : Term) → ((i : ℕ) → i < length ts → f (get_or ts i e) ≤ℤ g (get_or ts i e)) → sum_over f ts ≤ℤ sum_over g ts
unfolding sum_over
sum_rises f g [] e h = omega (arith, ints)
sum_rises f g (t ∷ ts) e h =
    let first = h 0 (omega arith) in
    let rest = sum_rises f g ts e (λ i l. h (suc i) (omega arith)) in
    omega (arith, ints)

-- the sums without one term
pub sum_rises_without : (f g : Term → ℤ) (ts : List Term) (e : Term) (k : ℕ) → k < length ts → ((i : ℕ) → i < length ts → f (get_or ts i e) ≤ℤ g (get_or ts i e))
    → (sum_over f ts -ℤ f (get_or ts k e)) ≤ℤ (sum_over g ts -ℤ g (get_or ts k e))
unfolding sum_over
sum_rises_without f g [] e k l h = absurd (omega arith)
sum_rises_without f g (t ∷ ts) e zero l h =
    let rest = sum_rises f g ts e (λ i l. h (suc i) (omega arith)) in
    omega (arith, ints)
sum_rises_without f g (t ∷ ts) e (suc k) l h =
    let first = h 0 (omega arith) in
    let rest = sum_rises_without f g ts e k (omega arith) (λ i l. h (suc i) (omega arith)) in
    omega (arith, ints)

pub sum_same : (f g : Term → ℤ) (ts : List Term) (e : Term) → ((i : ℕ) → i < length ts → f (get_or ts i e) ≡ g (get_or ts i e)) → sum_over f ts ≡ sum_over g ts
unfolding sum_over
sum_same f g [] e h = refl
sum_same f g (t ∷ ts) e h =
    let first = h 0 (omega arith) in
    let rest = sum_same f g ts e (λ i l. h (suc i) (omega arith)) in
    (λ i. first i +ℤ rest i)

-- ---- literals

-- a number between two has the truth of a literal that both have
sign_between : (s : Bool) (l z h : ℤ) → l ≤ℤ z → z ≤ℤ h → sign_true s l ≡ true → sign_true s h ≡ true → true ≡ sign_true s z
sign_between true l z h p q e f = omega (arith, ints)
sign_between false l z h p q e f = omega (arith, ints)

sign_between_not : (s : Bool) (l z h : ℤ) → l ≤ℤ z → z ≤ℤ h → sign_true s l ≡ false → sign_true s h ≡ false → false ≡ sign_true s z
sign_between_not true l z h p q e f = omega (arith, ints)
sign_between_not false l z h p q e f = omega (arith, ints)

not_parts : (x y : Bool) → (not x && not y) ≡ true → (x ≡ false) × (y ≡ false)
not_parts true y e = absurd (cc)
not_parts false true e = absurd (cc)
not_parts false false e = (refl, refl)

module _ (inner outer : Bounds) where
  -- a literal that is sure, or out, in a box is so in a box inside
  pub sure_inside : (l : Lit) → low_of outer l.var ≤ℤ low_of inner l.var → low_of inner l.var ≤ℤ high_of inner l.var → high_of inner l.var ≤ℤ high_of outer l.var
      → is_sure l outer ≡ true → is_sure l inner ≡ true
  unfolding is_sure
  sure_inside l p q r e =
      let parts = and_parts (literal_true l (low_of outer l.var)) (literal_true l (high_of outer l.var)) e in
      let low = sign_between l.positive (low_of outer l.var) (low_of inner l.var) (high_of outer l.var) p (omega (arith, ints)) parts.0 parts.1 in
      let high = sign_between l.positive (low_of outer l.var) (high_of inner l.var) (high_of outer l.var) (omega (arith, ints)) r parts.0 parts.1 in
      (λ i. sym low i && sym high i)

  pub out_inside : (l : Lit) → low_of outer l.var ≤ℤ low_of inner l.var → low_of inner l.var ≤ℤ high_of inner l.var → high_of inner l.var ≤ℤ high_of outer l.var
      → is_out l outer ≡ true → is_out l inner ≡ true
  unfolding is_out
  out_inside l p q r e =
      let parts = not_parts (literal_true l (low_of outer l.var)) (literal_true l (high_of outer l.var)) e in
      let low = sign_between_not l.positive (low_of outer l.var) (low_of inner l.var) (high_of outer l.var) p (omega (arith, ints)) parts.0 parts.1 in
      let high = sign_between_not l.positive (low_of outer l.var) (high_of inner l.var) (high_of outer l.var) (omega (arith, ints)) r parts.0 parts.1 in
      (λ i. not (sym low i) && not (sym high i))

-- the value of a variable at a point is its low
pub value-point : (b : Bounds) (v : ℕ) → value_of (point_of b) v ≡ low_of b v
value-point [] v = refl
value-point (p ∷ b) zero = refl
value-point (p ∷ b) (suc v) = value-point b v

-- ---- terms

-- a product with a number between two bounds lies between the products with these
pub product_between : (a l z h : ℤ) → l ≤ℤ z → z ≤ℤ h → (int_min (a *ℤ l) (a *ℤ h) ≤ℤ (a *ℤ z)) × ((a *ℤ z) ≤ℤ int_max (a *ℤ l) (a *ℤ h))
product_between (pos n) l z h p q =
    let one : up l + down z ≤ up z + down l = omega (arith, ints) in
    let two : up z + down h ≤ up h + down z = omega (arith, ints) in
    let low : (pos n *ℤ l) ≤ℤ (pos n *ℤ z) = omega (arith, ints, mul-le-mul_left n one) in
    let high : (pos n *ℤ z) ≤ℤ (pos n *ℤ h) = omega (arith, ints, mul-le-mul_left n two) in
    (omega (arith, ints, clamps), omega (arith, ints, clamps))
product_between (negsuc n) l z h p q =
    let one : up l + down z ≤ up z + down l = omega (arith, ints) in
    let two : up z + down h ≤ up h + down z = omega (arith, ints) in
    let low : (negsuc n *ℤ z) ≤ℤ (negsuc n *ℤ l) = omega (arith, ints, mul-le-mul_left (suc n) one) in
    let high : (negsuc n *ℤ h) ≤ℤ (negsuc n *ℤ z) = omega (arith, ints, mul-le-mul_left (suc n) two) in
    (omega (arith, ints, clamps), omega (arith, ints, clamps))

-- a term's range in a box inside another lies inside its range there
pub least_rises : (inner outer : Bounds) (a : ℤ) (x : ℕ) → low_of outer x ≤ℤ low_of inner x → low_of inner x ≤ℤ high_of inner x → high_of inner x ≤ℤ high_of outer x
    → least_of outer (a, x) ≤ℤ least_of inner (a, x)
unfolding least_of
least_rises inner outer a x p q r =
    let one = (product_between a (low_of outer x) (low_of inner x) (high_of outer x) p (omega (arith, ints))).0 in
    let two = (product_between a (low_of outer x) (high_of inner x) (high_of outer x) (omega (arith, ints)) r).0 in
    omega (arith, ints, clamps)

pub greatest_falls : (inner outer : Bounds) (a : ℤ) (x : ℕ) → low_of outer x ≤ℤ low_of inner x → low_of inner x ≤ℤ high_of inner x → high_of inner x ≤ℤ high_of outer x
    → greatest_of inner (a, x) ≤ℤ greatest_of outer (a, x)
unfolding greatest_of
greatest_falls inner outer a x p q r =
    let one = (product_between a (low_of outer x) (low_of inner x) (high_of outer x) p (omega (arith, ints))).1 in
    let two = (product_between a (low_of outer x) (high_of inner x) (high_of outer x) (omega (arith, ints)) r).1 in
    omega (arith, ints, clamps)

-- at a point both are the product
pub least_at_point : (b : Bounds) (a : ℤ) (x : ℕ) → low_of b x ≡ high_of b x → least_of b (a, x) ≡ a *ℤ low_of b x
unfolding least_of
least_at_point b a x e = let f = ap (λ (z : ℤ). a *ℤ z) e in omega (arith, ints, clamps)

pub greatest_at_point : (b : Bounds) (a : ℤ) (x : ℕ) → low_of b x ≡ high_of b x → greatest_of b (a, x) ≡ a *ℤ low_of b x
unfolding greatest_of
greatest_at_point b a x e = let f = ap (λ (z : ℤ). a *ℤ z) e in omega (arith, ints, clamps)

module _ (inner outer : Bounds) (l : Lit) (coeffs : List ℤ) (vars : List ℕ) (same : length coeffs ≡ length vars) (proper : IsProperIn (l.var ∷ vars) inner) (inside : IsInsideIn (l.var ∷ vars) inner outer) where
  -- the range of each term
  pub least_at : (i : ℕ) → i < length (zip coeffs vars) → least_of outer (get_or (zip coeffs vars) i (pos 0, 0)) ≤ℤ least_of inner (get_or (zip coeffs vars) i (pos 0, 0))
  least_at i h =
      let at : i + 1 < length (l.var ∷ vars) = omega (arith, length-zip coeffs vars same) in
      let P : Term → Type 0 = λ t. least_of outer t ≤ℤ least_of inner t in
      subst P (sym (get_or-zip coeffs vars i same)) (least_rises inner outer (get_or coeffs i (pos 0)) (get_or vars i 0) (inside.lows (suc i) (omega arith)) (proper (suc i) (omega arith)) (inside.highs (suc i) (omega arith)))

  pub greatest_at : (i : ℕ) → i < length (zip coeffs vars) → greatest_of inner (get_or (zip coeffs vars) i (pos 0, 0)) ≤ℤ greatest_of outer (get_or (zip coeffs vars) i (pos 0, 0))
  greatest_at i h =
      let at : i + 1 < length (l.var ∷ vars) = omega (arith, length-zip coeffs vars same) in
      let P : Term → Type 0 = λ t. greatest_of inner t ≤ℤ greatest_of outer t in
      subst P (sym (get_or-zip coeffs vars i same)) (greatest_falls inner outer (get_or coeffs i (pos 0)) (get_or vars i 0) (inside.lows (suc i) (omega arith)) (proper (suc i) (omega arith)) (inside.highs (suc i) (omega arith)))

  pub least_sums : sum_over (least_of outer) (zip coeffs vars) ≤ℤ sum_over (least_of inner) (zip coeffs vars)
  least_sums = sum_rises (least_of outer) (least_of inner) (zip coeffs vars) (pos 0, 0) least_at

  pub greatest_sums : sum_over (greatest_of inner) (zip coeffs vars) ≤ℤ sum_over (greatest_of outer) (zip coeffs vars)
  greatest_sums = sum_rises (greatest_of inner) (greatest_of outer) (zip coeffs vars) (pos 0, 0) greatest_at

module _ (b : Bounds) (l : Lit) (coeffs : List ℤ) (vars : List ℕ) (same : length coeffs ≡ length vars) (variables : AreVariables (length b) (l.var ∷ vars)) (point : IsPoint b) where
  -- the variable of a term
  pub var_in_box : (i : ℕ) → i < length (zip coeffs vars) → get_or vars i 0 < length b
  var_in_box i h = let at : i < length vars = omega (arith, length-zip coeffs vars same) in variables.each (suc i) (omega arith)

  pub least_value : (i : ℕ) → i < length (zip coeffs vars) → least_of b (get_or (zip coeffs vars) i (pos 0, 0)) ≡ term_value (point_of b) (get_or (zip coeffs vars) i (pos 0, 0))
  least_value i h =
      let P : Term → Type 0 = λ t. least_of b t ≡ term_value (point_of b) t in
      let a = get_or coeffs i (pos 0) in
      let x = get_or vars i 0 in
      subst P (sym (get_or-zip coeffs vars i same)) (least_at_point b a x (point x (var_in_box i h)) ∙ ap (λ (z : ℤ). a *ℤ z) (sym (value-point b x)))

  pub greatest_value : (i : ℕ) → i < length (zip coeffs vars) → greatest_of b (get_or (zip coeffs vars) i (pos 0, 0)) ≡ term_value (point_of b) (get_or (zip coeffs vars) i (pos 0, 0))
  greatest_value i h =
      let P : Term → Type 0 = λ t. greatest_of b t ≡ term_value (point_of b) t in
      let a = get_or coeffs i (pos 0) in
      let x = get_or vars i 0 in
      subst P (sym (get_or-zip coeffs vars i same)) (greatest_at_point b a x (point x (var_in_box i h)) ∙ ap (λ (z : ℤ). a *ℤ z) (sym (value-point b x)))

  pub least_sum : sum_over (least_of b) (zip coeffs vars) ≡ sum_over (term_value (point_of b)) (zip coeffs vars)
  least_sum = sum_same (least_of b) (term_value (point_of b)) (zip coeffs vars) (pos 0, 0) least_value

  pub greatest_sum : sum_over (greatest_of b) (zip coeffs vars) ≡ sum_over (term_value (point_of b)) (zip coeffs vars)
  greatest_sum = sum_same (greatest_of b) (term_value (point_of b)) (zip coeffs vars) (pos 0, 0) greatest_value

-- the variable of a term is one of the list
pub zip_at : (coeffs : List ℤ) (vars : List ℕ) (i : ℕ) → i < length (zip coeffs vars) → (i < length vars) × ((get_or (zip coeffs vars) i (pos 0, 0)).1 ≡ get_or vars i 0)
zip_at [] vars i h = absurd (omega arith)
zip_at (a ∷ coeffs) [] i h = absurd (omega arith)
zip_at (a ∷ coeffs) (x ∷ vars) zero h = (omega arith, refl)
zip_at (a ∷ coeffs) (x ∷ vars) (suc i) h = let (l, e) = zip_at coeffs vars i (omega arith) in (omega arith, e)

-- boxes that agree have the same terms and literals
module _ (b c : Bounds) where
  least_as : (t : Term) → low_of b t.1 ≡ low_of c t.1 → high_of b t.1 ≡ high_of c t.1 → least_of b t ≡ least_of c t
  unfolding least_of
  least_as t low high = (λ k. int_min (t.0 *ℤ low k) (t.0 *ℤ high k))

  greatest_as : (t : Term) → low_of b t.1 ≡ low_of c t.1 → high_of b t.1 ≡ high_of c t.1 → greatest_of b t ≡ greatest_of c t
  unfolding greatest_of
  greatest_as t low high = (λ k. int_max (t.0 *ℤ low k) (t.0 *ℤ high k))

  module _ (l : Lit) (coeffs : List ℤ) (vars : List ℕ) (agree : AgreeIn (l.var ∷ vars) b c) where
    pub least_same : (i : ℕ) → i < length (zip coeffs vars) → least_of b (get_or (zip coeffs vars) i (pos 0, 0)) ≡ least_of c (get_or (zip coeffs vars) i (pos 0, 0))
    least_same i h =
        let (few, e) = zip_at coeffs vars i h in
        least_as (get_or (zip coeffs vars) i (pos 0, 0)) (subst (λ (x : ℕ). low_of b x ≡ low_of c x) (sym e) (agree.lows (suc i) (omega arith))) (subst (λ (x : ℕ). high_of b x ≡ high_of c x) (sym e) (agree.highs (suc i) (omega arith)))

    pub greatest_same : (i : ℕ) → i < length (zip coeffs vars) → greatest_of b (get_or (zip coeffs vars) i (pos 0, 0)) ≡ greatest_of c (get_or (zip coeffs vars) i (pos 0, 0))
    greatest_same i h =
        let (few, e) = zip_at coeffs vars i h in
        greatest_as (get_or (zip coeffs vars) i (pos 0, 0)) (subst (λ (x : ℕ). low_of b x ≡ low_of c x) (sym e) (agree.lows (suc i) (omega arith))) (subst (λ (x : ℕ). high_of b x ≡ high_of c x) (sym e) (agree.highs (suc i) (omega arith)))

    pub least_sums_same : sum_over (least_of b) (zip coeffs vars) ≡ sum_over (least_of c) (zip coeffs vars)
    least_sums_same = sum_same (least_of b) (least_of c) (zip coeffs vars) (pos 0, 0) least_same

    pub greatest_sums_same : sum_over (greatest_of b) (zip coeffs vars) ≡ sum_over (greatest_of c) (zip coeffs vars)
    greatest_sums_same = sum_same (greatest_of b) (greatest_of c) (zip coeffs vars) (pos 0, 0) greatest_same

pub sure_same : (b c : Bounds) (l : Lit) → low_of b l.var ≡ low_of c l.var → high_of b l.var ≡ high_of c l.var → is_sure l b ≡ is_sure l c
unfolding is_sure
sure_same b c l p q = (λ i. literal_true l (p i) && literal_true l (q i))

pub out_same : (b c : Bounds) (l : Lit) → low_of b l.var ≡ low_of c l.var → high_of b l.var ≡ high_of c l.var → is_out l b ≡ is_out l c
unfolding is_out
out_same b c l p q = (λ i. not (literal_true l (p i)) && not (literal_true l (q i)))
