-- The tells of the greater of two, and where they narrow nothing.
use Rattle.std.proofs.Common.{◌≡◌, ℕ, List, [], ◌∷◌, ◌++◌, length, Bool, true, false, cond, ◌≤ℤ◌, ◌<ℤ◌, refl, sym, subst, ◌∙◌, arith}
use Rattle.std.proofs.lemmas.Int.{ints, clamps, by_lt_z}
use Rattle.std.proofs.lemmas.List.{append-nil}
use Rattle.std.proofs.lemmas.List.Elements.{All-nil, All-cons, filter-append}
use Rattle.std.specs.Int.{int_max}
use Rattle.std.specs.Int.RustNames.{int_le}
use Rattle.std.specs.List.{All, filter}
use Rattle.tells.specs.declared.tell.Tell.{Tell}
use Rattle.interval.specs.Limits.{IsBound, ClampOrder}
use Rattle.interval.specs.Boxes.{Bounds, low_of, high_of}
use Rattle.tells.specs.Words.{low_tell, high_tell, Keeps}
use Rattle.extreme_tells.specs.Extremes.{greatest_with, greatest_over, sole, told_of}
use Rattle.extreme_tells.specs.Maximum.{max_reaches, max_tells}
use Rattle.tell_laws.specs.Narrowing.{narrows, narrowing}
use Rattle.tell_laws.proofs.Lists.{All-one}
use Rattle.guarded_tell.specs.declared.kernel.Kernel.{Kernel}
use Rattle.kernel_visits.specs.declared.shape.Shape.TheVariants.{Greatest}
use Rattle.seen_tells.specs.declared.seen.Seen.{Seen}
use Rattle.guarded_tell.specs.Words.{AreVariables}
use Rattle.guarded_tell.specs.Kernels.{vars_of, tells, IsKernel}
use Rattle.kernel_visits.specs.Narrowing.{narrowing_tells}
use Rattle.kernel_visits.specs.Shapes.{IsShapeOf}
use Rattle.seen_tells.specs.Few.{AreFew}

-- ---- the variables stand in the box

pub greatest_places : (k : Kernel) (b : Bounds) (m x y : ℕ) → IsKernel (length b) k → IsShapeOf k (Greatest m x y) → AreVariables (length b) (m ∷ x ∷ y ∷ [])
unfolding IsShapeOf vars_of
greatest_places k b m x y kernel e = subst (λ (j : Kernel). AreVariables (length b) (vars_of j)) e kernel.variables

-- those of two elements that pass a test
abbrev passing : Bool → Bool → ℕ → ℕ → List ℕ
passing p q x y = cond p (x ∷ cond q (y ∷ []) []) (cond q (y ∷ []) [])

module _ (b : Bounds) (m x y : ℕ) where
  -- ---- the tell of the one that can be as great, where the other can't

  abbrev pub sole_tells : List Tell
  sole_tells = told_of (λ v. low_tell v (low_of b m)) (sole (filter (max_reaches m b) (x ∷ y ∷ [])))

  reaches : (v : ℕ) → low_of b m ≤ℤ high_of b v → max_reaches m b v ≡ true
  unfolding max_reaches
  reaches v h = let f : true ≡ int_le (low_of b m) (high_of b v) = omega (arith, ints) in sym f

  falls_short : (v : ℕ) → high_of b v <ℤ low_of b m → max_reaches m b v ≡ false
  unfolding max_reaches
  falls_short v h = let f : false ≡ int_le (low_of b m) (high_of b v) = omega (arith, ints) in sym f

  of_passing : (p q : Bool) → max_reaches m b x ≡ p → max_reaches m b y ≡ q → sole_tells ≡ told_of (λ v. low_tell v (low_of b m)) (sole (passing p q x y))
  of_passing p q e f = λ i. told_of (λ v. low_tell v (low_of b m)) (sole (passing (e i) (f i) x y))

  pub both_reach : low_of b m ≤ℤ high_of b x → low_of b m ≤ℤ high_of b y → sole_tells ≡ []
  unfolding sole
  both_reach g h = of_passing true true (reaches x g) (reaches y h)

  pub first_alone : low_of b m ≤ℤ high_of b x → high_of b y <ℤ low_of b m → sole_tells ≡ low_tell x (low_of b m) ∷ []
  unfolding sole
  first_alone g h = of_passing true false (reaches x g) (falls_short y h)

  pub second_alone : high_of b x <ℤ low_of b m → low_of b m ≤ℤ high_of b y → sole_tells ≡ low_tell y (low_of b m) ∷ []
  unfolding sole
  second_alone g h = of_passing false true (falls_short x g) (reaches y h)

  pub neither_reaches : high_of b x <ℤ low_of b m → high_of b y <ℤ low_of b m → sole_tells ≡ []
  unfolding sole
  neither_reaches g h = of_passing false false (falls_short x g) (falls_short y h)

  pub few_without : (ts : List Tell) (f : Seen) → sole_tells ≡ [] → AreFew ts f → AreFew (ts ++ narrowing b sole_tells) f
  few_without ts f e few =
      subst (λ (us : List Tell). AreFew (ts ++ narrowing b us) f) (sym e)
      (subst (λ (us : List Tell). AreFew us f) (sym (append-nil ts)) few)

  pub few_with : (t u : Tell) (ts : List Tell) (f : Seen) → sole_tells ≡ u ∷ [] → t ≡ u → AreFew (ts ++ narrowing b (t ∷ [])) f → AreFew (ts ++ narrowing b sole_tells) f
  few_with t u ts f e same few =
      subst (λ (us : List Tell). AreFew (ts ++ narrowing b us) f) (sym e)
      (subst (λ (v : Tell). AreFew (ts ++ narrowing b (v ∷ [])) f) same few)

  pub sole_kept : ClampOrder → IsBound (low_of b m) → low_of b m ≤ℤ int_max (high_of b x) (low_of b y) → low_of b m ≤ℤ int_max (high_of b y) (low_of b x) → All (Keeps b) sole_tells
  sole_kept clamped bound first second =
      let same = clamped.same (low_of b m) bound in
      let A : List Tell → Type 0 = λ ts. All (Keeps b) ts in
      by_lt_z (high_of b x) (low_of b m)
      (λ g. by_lt_z (high_of b y) (low_of b m)
      (λ h. subst A (sym (neither_reaches g h)) (All-nil (Keeps b)))
      (λ h. subst A (sym (second_alone g h)) (All-one (Keeps b) (low_tell y (low_of b m)) (omega (arith, ints, clamps)))))
      (λ g. by_lt_z (high_of b y) (low_of b m)
      (λ h. subst A (sym (first_alone g h)) (All-one (Keeps b) (low_tell x (low_of b m)) (omega (arith, ints, clamps))))
      (λ h. subst A (sym (both_reach g h)) (All-nil (Keeps b))))

  -- ---- all tells

  abbrev low_told : Tell
  low_told = low_tell m (int_max (low_of b x) (low_of b y))

  abbrev high_told : Tell
  high_told = high_tell m (int_max (high_of b x) (high_of b y))

  of_two : max_tells m (x ∷ y ∷ []) b ≡ low_told ∷ high_told ∷ high_tell x (high_of b m) ∷ high_tell y (high_of b m) ∷ sole_tells
  unfolding max_tells greatest_over greatest_with
  of_two = refl

  pub greatest_kept : ClampOrder → IsBound (low_of b m) → IsBound (high_of b m) → int_max (low_of b x) (low_of b y) ≤ℤ low_of b m → int_max (high_of b x) (high_of b y) ≡ high_of b m
      → All (Keeps b) sole_tells → All (Keeps b) (max_tells m (x ∷ y ∷ []) b)
  greatest_kept clamped low_bound high_bound low high one =
      let K : Tell → Type 0 = Keeps b in
      let same_low = clamped.same (low_of b m) low_bound in
      let same_high = clamped.same (high_of b m) high_bound in
      let rise = clamped.rises (int_max (low_of b x) (low_of b y)) (low_of b m) low in
      let fall = clamped.rises (high_of b m) (int_max (high_of b x) (high_of b y)) (omega (arith, ints)) in
      let of_m_low : K low_told = omega (arith, ints) in
      let of_m_high : K high_told = omega (arith, ints) in
      let of_x : K (high_tell x (high_of b m)) = omega (arith, ints, clamps) in
      let of_y : K (high_tell y (high_of b m)) = omega (arith, ints, clamps) in
      subst (λ (ts : List Tell). All K ts) (sym of_two)
      (All-cons K low_told (high_told ∷ high_tell x (high_of b m) ∷ high_tell y (high_of b m) ∷ sole_tells) of_m_low
      (All-cons K high_told (high_tell x (high_of b m) ∷ high_tell y (high_of b m) ∷ sole_tells) of_m_high
      (All-cons K (high_tell x (high_of b m)) (high_tell y (high_of b m) ∷ sole_tells) of_x (All-cons K (high_tell y (high_of b m)) sole_tells of_y one))))

  -- gathered one after the other
  in_order : (t u v w : Tell) (us : List Tell) → (((narrowing b (t ∷ []) ++ narrowing b (u ∷ [])) ++ narrowing b (v ∷ [])) ++ narrowing b (w ∷ [])) ++ narrowing b us ≡ narrowing b (t ∷ u ∷ v ∷ w ∷ us)
  in_order t u v w us =
      let two = sym (filter-append (narrows b) (t ∷ []) (u ∷ [])) in
      let three = (λ i. two i ++ narrowing b (v ∷ [])) ∙ sym (filter-append (narrows b) (t ∷ u ∷ []) (v ∷ [])) in
      let four = (λ i. three i ++ narrowing b (w ∷ [])) ∙ sym (filter-append (narrows b) (t ∷ u ∷ v ∷ []) (w ∷ [])) in
      (λ i. four i ++ narrowing b us) ∙ sym (filter-append (narrows b) (t ∷ u ∷ v ∷ w ∷ []) us)

  pub few_of_two : (t u v w : Tell) (f : Seen) → t ≡ low_told → u ≡ high_told → v ≡ high_tell x (high_of b m) → w ≡ high_tell y (high_of b m)
      → AreFew ((((narrowing b (t ∷ []) ++ narrowing b (u ∷ [])) ++ narrowing b (v ∷ [])) ++ narrowing b (w ∷ [])) ++ narrowing b sole_tells) f → AreFew (narrowing b (max_tells m (x ∷ y ∷ []) b)) f
  few_of_two t u v w f first second third fourth few =
      subst (λ (ts : List Tell). AreFew ts f)
      (in_order t u v w sole_tells ∙ (λ i. narrowing b (first i ∷ second i ∷ third i ∷ fourth i ∷ sole_tells)) ∙ (λ i. narrowing b (sym of_two i))) few

-- ---- of the kernel

pub kernel_kept : (k : Kernel) (b : Bounds) (m x y : ℕ) → IsShapeOf k (Greatest m x y) → All (Keeps b) (max_tells m (x ∷ y ∷ []) b) → All (Keeps b) (tells k b)
unfolding IsShapeOf tells
kernel_kept k b m x y e kept = subst (λ (j : Kernel). All (Keeps b) (tells j b)) (sym e) kept

pub kernel_few : (k : Kernel) (b : Bounds) (m x y : ℕ) (f : Seen) → IsShapeOf k (Greatest m x y) → AreFew (narrowing b (max_tells m (x ∷ y ∷ []) b)) f → AreFew (narrowing_tells k b) f
unfolding IsShapeOf tells
kernel_few k b m x y f e few = subst (λ (j : Kernel). AreFew (narrowing_tells j b) f) (sym e) few
