-- What a short shape tells.
use Rattle.std.proofs.Common.{◌≡◌, ℕ, List, [], ◌∷◌, ◌++◌, Bool, true, false, ◌&&◌, ◌||◌, ℤ, pos, negsuc, ◌+ℤ◌, ◌-ℤ◌, ◌≤ℤ◌, ◌<ℤ◌, inl, inr, refl, subst, ◌∙◌, arith}
use Rattle.std.proofs.lemmas.Int.{ints, clamps}
use Rattle.std.proofs.lemmas.Bool.{and_parts}
use Rattle.std.proofs.lemmas.List.{append-nil}
use Rattle.std.proofs.lemmas.List.Elements.{All-append, filter-append}
use Rattle.std.specs.Int.RustNames.{int_lt}
use Rattle.std.specs.List.{flat_map}
use Rattle.tells.specs.declared.tell.Lit.{Lit}
use Rattle.tells.specs.declared.tell.Tell.{Tell}
use Rattle.interval.specs.Limits.{IsNumber, ClampOrder}
use Rattle.interval.specs.Boxes.{Bounds, low_of, high_of}
use Rattle.guarded_tell.specs.Words.{Keeps, when, is_out, tell_true, tell_false}
use Rattle.sum_tells.specs.Linear.{Term, IsLinear, sum_over, least_of, greatest_of}
use Rattle.sum_tells.specs.Equality.{is_same, product_is_not, equation_tells, equal_tell, equal_tells, unequal_tell, unequal_tells, eq_tells}
use Rattle.clause_tells.specs.Clause.{clause_tells, sole_tells}
use Rattle.guarded_tell.specs.declared.kernel.Kernel.{Kernel}
use Rattle.kernel_visits.specs.declared.shape.Shape.TheVariants.{Same, Either, Triple}
use Rattle.guarded_tell.specs.Kernels.{tells, HasNumbers, IsKernel}
use Rattle.kernel_visits.specs.Shapes.{IsShapeOf}
use Rattle.tell_laws.specs.Narrowing.{narrows, narrowing}
use Rattle.kernel_visits.specs.Narrowing.{narrowing_tells}
use Rattle.tell_laws.proofs.Lists.{All-one, All-when}
use Rattle.sum_tells.proofs.EqualityLaws.{same_is, is_same_of}
use Rattle.tell_laws.proofs.LiteralLaws.{by_bool}
use Rattle.tell_laws.proofs.NarrowingLaws.{none_narrows}
use Rattle.small_sums.proofs.QuietLaws.{out_keeps, not_sure}

-- ---- two terms whose sum must not be the limit, and of which one is fixed: the other alone is told

module _ (clamped : ClampOrder) (b : Bounds) (l : Lit) (limit : ℤ) (t u : Term) (m n : ℤ) (least : m ≡ (least_of b t +ℤ least_of b u)) (greatest : n ≡ (greatest_of b t +ℤ greatest_of b u))
    (out : is_out l b ≡ true) (fixed : least_of b u ≡ greatest_of b u) (wide : least_of b t <ℤ greatest_of b t) where
  literal_none : narrowing b (equation_tells l limit m n) ≡ []
  literal_none = none_narrows b (equation_tells l limit m n)
      (All-append (Keeps b) (when (int_lt limit m || int_lt n limit) (tell_false l ∷ [])) (when (is_same m limit && is_same n limit) (tell_true l ∷ []))
      (All-when (Keeps b) (int_lt limit m || int_lt n limit) (tell_false l ∷ []) (λ e. All-one (Keeps b) (tell_false l) (out_keeps clamped b l out)))
      (All-when (Keeps b) (is_same m limit && is_same n limit) (tell_true l ∷ []) (λ e.
      let parts = and_parts (is_same m limit) (is_same n limit) e in
      let p = same_is m limit parts.0 in
      let q = same_is n limit parts.1 in
      absurd (omega (arith, ints)))))

  fixed_none : narrowing b (unequal_tell b limit m n u) ≡ []
  fixed_none = none_narrows b (unequal_tell b limit m n u)
      (All-when (Keeps b) (is_same (m -ℤ least_of b u) (n -ℤ greatest_of b u)) (product_is_not u.1 u.0 (limit -ℤ (m -ℤ least_of b u)) b) (λ e.
      let p = same_is (m -ℤ least_of b u) (n -ℤ greatest_of b u) e in
      absurd (omega (arith, ints))))

  open_told : unequal_tell b limit m n t ≡ product_is_not t.1 t.0 (limit -ℤ least_of b u) b
  open_told =
      let test : is_same (m -ℤ least_of b t) (n -ℤ greatest_of b t) ≡ true = is_same_of (m -ℤ least_of b t) (n -ℤ greatest_of b t) (omega (arith, ints)) in
      let rest : (m -ℤ least_of b t) ≡ least_of b u = omega (arith, ints) in
      (λ i. when (test i) (product_is_not t.1 t.0 (limit -ℤ rest i) b))

  abbrev told : List Term → List Tell
  told ts = equation_tells l limit m n ++ (equal_tells l ts limit m n b ++ unequal_tells l ts limit m n b)

  by_terms : (ts : List Term) → narrowing b (told ts) ≡ narrowing b (flat_map (unequal_tell b limit m n) ts)
  by_terms ts =
      let none = not_sure clamped b l out in
      filter-append (narrows b) (equation_tells l limit m n) (equal_tells l ts limit m n b ++ unequal_tells l ts limit m n b)
      ∙ (λ i. literal_none i ++ narrowing b (when (none i) (flat_map (equal_tell b limit m n) ts) ++ when (out i) (flat_map (unequal_tell b limit m n) ts)))

  pub first_told : narrowing b (told (t ∷ u ∷ [])) ≡ narrowing b (product_is_not t.1 t.0 (limit -ℤ least_of b u) b)
  first_told =
      by_terms (t ∷ u ∷ [])
      ∙ filter-append (narrows b) (unequal_tell b limit m n t) (unequal_tell b limit m n u ++ [])
      ∙ (λ i. narrowing b (unequal_tell b limit m n t) ++ narrowing b (append-nil (unequal_tell b limit m n u) i))
      ∙ (λ i. narrowing b (unequal_tell b limit m n t) ++ fixed_none i)
      ∙ append-nil (narrowing b (unequal_tell b limit m n t))
      ∙ (λ i. narrowing b (open_told i))

  pub second_told : narrowing b (told (u ∷ t ∷ [])) ≡ narrowing b (product_is_not t.1 t.0 (limit -ℤ least_of b u) b)
  second_told =
      by_terms (u ∷ t ∷ [])
      ∙ filter-append (narrows b) (unequal_tell b limit m n u) (unequal_tell b limit m n t ++ [])
      ∙ (λ i. fixed_none i ++ narrowing b (append-nil (unequal_tell b limit m n t) i))
      ∙ (λ i. narrowing b (open_told i))

module _ (clamped : ClampOrder) (b : Bounds) (k : Kernel) (l : Lit) (x y : ℕ) (limit : ℤ) (out : is_out l b ≡ true) where
  pub apart_first : IsShapeOf k (Same l x y limit) → low_of b y ≡ high_of b y → low_of b x <ℤ high_of b x → (p : ℤ) → p ≡ limit +ℤ low_of b y
      → narrowing_tells k b ≡ narrowing b (product_is_not x (pos 1) p b)
  unfolding IsShapeOf tells eq_tells sum_over least_of greatest_of
  apart_first (cs, vs, e, inl (f, g)) fixed wide p same =
      (λ i. narrowing b (tells (e i) b))
      ∙ (λ i. narrowing b (eq_tells l (f i) (g i) limit b))
      ∙ first_told clamped b l limit (pos 1, x) (negsuc 0, y) _ _ (omega (arith, ints)) (omega (arith, ints)) out (omega (arith, ints, clamps)) (omega (arith, ints, clamps))
      ∙ (let rest : (limit -ℤ least_of b (negsuc 0, y)) ≡ p = omega (arith, ints, clamps) in λ i. narrowing b (product_is_not x (pos 1) (rest i) b))
  apart_first (cs, vs, e, inr (f, g)) fixed wide p same =
      (λ i. narrowing b (tells (e i) b))
      ∙ (λ i. narrowing b (eq_tells l (f i) (g i) limit b))
      ∙ second_told clamped b l limit (pos 1, x) (negsuc 0, y) _ _ (omega (arith, ints)) (omega (arith, ints)) out (omega (arith, ints, clamps)) (omega (arith, ints, clamps))
      ∙ (let rest : (limit -ℤ least_of b (negsuc 0, y)) ≡ p = omega (arith, ints, clamps) in λ i. narrowing b (product_is_not x (pos 1) (rest i) b))

  pub apart_second : IsShapeOf k (Same l x y limit) → low_of b x ≡ high_of b x → low_of b y <ℤ high_of b y → (p : ℤ) → p ≡ limit -ℤ low_of b x
      → narrowing_tells k b ≡ narrowing b (product_is_not y (negsuc 0) p b)
  unfolding IsShapeOf tells eq_tells sum_over least_of greatest_of
  apart_second (cs, vs, e, inl (f, g)) fixed wide p same =
      (λ i. narrowing b (tells (e i) b))
      ∙ (λ i. narrowing b (eq_tells l (f i) (g i) limit b))
      ∙ second_told clamped b l limit (negsuc 0, y) (pos 1, x) _ _ (omega (arith, ints)) (omega (arith, ints)) out (omega (arith, ints, clamps)) (omega (arith, ints, clamps))
      ∙ (let rest : (limit -ℤ least_of b (pos 1, x)) ≡ p = omega (arith, ints, clamps) in λ i. narrowing b (product_is_not y (negsuc 0) (rest i) b))
  apart_second (cs, vs, e, inr (f, g)) fixed wide p same =
      (λ i. narrowing b (tells (e i) b))
      ∙ (λ i. narrowing b (eq_tells l (f i) (g i) limit b))
      ∙ first_told clamped b l limit (negsuc 0, y) (pos 1, x) _ _ (omega (arith, ints)) (omega (arith, ints)) out (omega (arith, ints, clamps)) (omega (arith, ints, clamps))
      ∙ (let rest : (limit -ℤ least_of b (pos 1, x)) ≡ p = omega (arith, ints, clamps) in λ i. narrowing b (product_is_not y (negsuc 0) (rest i) b))

-- what the code reads and forms
pub limit_number : (k : Kernel) (count : ℕ) (l : Lit) (x y : ℕ) (limit : ℤ) → IsKernel count k → IsShapeOf k (Same l x y limit) → IsNumber limit
unfolding IsShapeOf HasNumbers
limit_number k count l x y limit kernel (cs, vs, e, d) =
    let linear : IsLinear cs vs limit = subst (λ (j : Kernel). HasNumbers j) e kernel.numbers in
    linear.limit_in_range

-- bounds that aren't the same leave more than one number
pub open_of : (y z : ℤ) → false ≡ is_same y z → y ≤ℤ z → y <ℤ z
open_of y z e h = by_bool (int_lt y z) (λ t. omega (arith, ints)) (λ f. let s = is_same_of y z (omega (arith, ints)) in absurd (cc))

-- ---- a clause of two literals: each is told true where the other is out

and_true : (t : Bool) → (t && true) ≡ t
and_true true = refl
and_true false = refl

pub either_told : (b : Bounds) (l m : Lit) → narrowing b (clause_tells (l ∷ m ∷ []) b) ≡ narrowing b (when (is_out m b) (tell_true l ∷ [])) ++ narrowing b (when (is_out l b) (tell_true m ∷ []))
unfolding clause_tells sole_tells
either_told b l m =
    (λ i. narrowing b (when (and_true (is_out m b) i) (tell_true l ∷ []) ++ (when (and_true (is_out l b) i) (tell_true m ∷ []) ++ [])))
    ∙ (λ i. narrowing b (when (is_out m b) (tell_true l ∷ []) ++ append-nil (when (is_out l b) (tell_true m ∷ [])) i))
    ∙ filter-append (narrows b) (when (is_out m b) (tell_true l ∷ [])) (when (is_out l b) (tell_true m ∷ []))

pub either_tells : (b : Bounds) (k : Kernel) (l m : Lit) → IsShapeOf k (Either l m) → narrowing_tells k b ≡ narrowing b (clause_tells (l ∷ m ∷ []) b)
unfolding IsShapeOf tells
either_tells b k l m e = (λ i. narrowing b (tells (e i) b))

-- ---- a clause of three literals: each is told true where both others are out

abbrev pub triple_first : Bounds → Lit → Lit → Lit → List Tell
triple_first b l m n = when (is_out m b && is_out n b) (tell_true l ∷ [])

pub triple_told : (b : Bounds) (l m n : Lit) → narrowing b (clause_tells (l ∷ m ∷ n ∷ []) b)
    ≡ narrowing b (triple_first b l m n) ++ (narrowing b (triple_first b m l n) ++ narrowing b (triple_first b n l m))
unfolding clause_tells sole_tells
triple_told b l m n =
    (λ i. narrowing b (when (is_out m b && and_true (is_out n b) i) (tell_true l ∷ [])
    ++ (when (is_out l b && and_true (is_out n b) i) (tell_true m ∷ []) ++ (when (and_true (is_out l b && is_out m b) i) (tell_true n ∷ []) ++ []))))
    ∙ (λ i. narrowing b (triple_first b l m n ++ (triple_first b m l n ++ append-nil (triple_first b n l m) i)))
    ∙ filter-append (narrows b) (triple_first b l m n) (triple_first b m l n ++ triple_first b n l m)
    ∙ (λ i. narrowing b (triple_first b l m n) ++ filter-append (narrows b) (triple_first b m l n) (triple_first b n l m) i)

pub triple_tells : (b : Bounds) (k : Kernel) (l m n : Lit) → IsShapeOf k (Triple l m n) → narrowing_tells k b ≡ narrowing b (clause_tells (l ∷ m ∷ n ∷ []) b)
unfolding IsShapeOf tells
triple_tells b k l m n e = (λ i. narrowing b (tells (e i) b))
