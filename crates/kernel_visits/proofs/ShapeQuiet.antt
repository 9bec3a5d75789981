-- What a short shape says of its kernel's tells.
use Rattle.std.proofs.Common.{◌≡◌, ℕ, ◌<◌, List, [], ◌∷◌, length, false, ℤ, pos, negsuc, ◌+ℤ◌, ◌-ℤ◌, ◌≤ℤ◌, inl, inr, refl, sym, subst, arith}
use Rattle.std.proofs.lemmas.Int.{ints, clamps}
use Rattle.std.specs.Int.{int_max}
use Rattle.std.specs.List.{All}
use mir.Val.{to_z, of_z}
use mir.Syntax.{w64}
use Rattle.tells.specs.declared.tell.Lit.{Lit}
use Rattle.interval.specs.Limits.{ClampOrder}
use Rattle.interval.specs.Quotients.{QuotientOrder}
use Rattle.interval.specs.Boxes.{Bounds, low_of, high_of}
use Rattle.guarded_tell.specs.Words.{Keeps, is_out, AreVariables, IsProperIn}
use Rattle.sum_tells.specs.Linear.{IsLinear}
use Rattle.clause_tells.specs.Clause.{clause_vars}
use Rattle.small_sums.specs.declared.short.SmallTerm.{SmallTerm}
use Rattle.small_sums.specs.declared.short.Sums.{Sums}
use Rattle.small_sums.specs.declared.pairs.Pair.{Pair}
use Rattle.guarded_tell.specs.declared.kernel.Kernel.{Kernel}
use Rattle.kernel_visits.specs.declared.shape.Shape.TheVariants.{AtMost, Same, Either, Triple}
use Rattle.small_sums.specs.Short.{AreSums, sums_of_two, IsPairAtMostQuiet, IsPairEquationQuiet}
use Rattle.guarded_tell.specs.Kernels.{vars_of, tells, HasNumbers, IsKernel}
use Rattle.kernel_visits.specs.Shapes.{IsDifference, IsDifferenceIn, IsShapeOf}
use Rattle.kernel_visits.specs.Rests.{AreTwoLeft}
use Rattle.small_sums.proofs.ShortLaws.{short_number}
use Rattle.small_sums.proofs.PairLaws.{two_sums, pair_at_most, pair_equation}
use Rattle.small_sums.proofs.QuietLaws.{at_most_quiet, equation_quiet}
use Rattle.kernel_visits.proofs.ClauseQuiet.{two_quiet}

-- ---- the variables of a short shape stand in the box

pub record HasPlaces (b : Bounds) (l : Lit) (x y : ℕ) : Type 0 where
  pub literal : l.var < length b
  pub first : x < length b
  pub second : y < length b
  pub literal_proper : low_of b l.var ≤ℤ high_of b l.var
  pub first_proper : low_of b x ≤ℤ high_of b x
  pub second_proper : low_of b y ≤ℤ high_of b y

places_of : (b : Bounds) (l : Lit) (cs : List ℤ) (vs : List ℕ) (x y : ℕ) → AreVariables (length b) (l.var ∷ vs) → IsProperIn (l.var ∷ vs) b → IsDifference cs vs x y → HasPlaces b l x y
places_of b l cs vs x y variables proper (inl (e, f)) =
    let there : AreVariables (length b) (l.var ∷ x ∷ y ∷ []) = subst (λ (v : List ℕ). AreVariables (length b) (l.var ∷ v)) f variables in
    let left : IsProperIn (l.var ∷ x ∷ y ∷ []) b = subst (λ (v : List ℕ). IsProperIn (l.var ∷ v) b) f proper in
    record {
      literal = there.each 0 (omega arith);
      first = there.each 1 (omega arith);
      second = there.each 2 (omega arith);
      literal_proper = left 0 (omega arith);
      first_proper = left 1 (omega arith);
      second_proper = left 2 (omega arith);
    }
places_of b l cs vs x y variables proper (inr (e, f)) =
    let there : AreVariables (length b) (l.var ∷ y ∷ x ∷ []) = subst (λ (v : List ℕ). AreVariables (length b) (l.var ∷ v)) f variables in
    let left : IsProperIn (l.var ∷ y ∷ x ∷ []) b = subst (λ (v : List ℕ). IsProperIn (l.var ∷ v) b) f proper in
    record {
      literal = there.each 0 (omega arith);
      first = there.each 2 (omega arith);
      second = there.each 1 (omega arith);
      literal_proper = left 0 (omega arith);
      first_proper = left 2 (omega arith);
      second_proper = left 1 (omega arith);
    }

pub at_most_places : (k : Kernel) (b : Bounds) (l : Lit) (x y : ℕ) (limit : ℤ) → IsKernel (length b) k → IsProperIn (vars_of k) b → IsShapeOf k (AtMost l x y limit) → HasPlaces b l x y
unfolding IsShapeOf vars_of
at_most_places k b l x y limit kernel proper (cs, vs, e, d) =
    places_of b l cs vs x y (subst (λ (j : Kernel). AreVariables (length b) (vars_of j)) e kernel.variables) (subst (λ (j : Kernel). IsProperIn (vars_of j) b) e proper) d

pub same_places : (k : Kernel) (b : Bounds) (l : Lit) (x y : ℕ) (limit : ℤ) → IsKernel (length b) k → IsProperIn (vars_of k) b → IsShapeOf k (Same l x y limit) → HasPlaces b l x y
unfolding IsShapeOf vars_of
same_places k b l x y limit kernel proper (cs, vs, e, d) =
    places_of b l cs vs x y (subst (λ (j : Kernel). AreVariables (length b) (vars_of j)) e kernel.variables) (subst (λ (j : Kernel). IsProperIn (vars_of j) b) e proper) d

pub record HasLiterals (b : Bounds) (l m : Lit) : Type 0 where
  pub first : l.var < length b
  pub second : m.var < length b
  pub first_proper : low_of b l.var ≤ℤ high_of b l.var
  pub second_proper : low_of b m.var ≤ℤ high_of b m.var

pub either_places : (k : Kernel) (b : Bounds) (l m : Lit) → IsKernel (length b) k → IsProperIn (vars_of k) b → IsShapeOf k (Either l m) → HasLiterals b l m
unfolding IsShapeOf vars_of clause_vars
either_places k b l m kernel proper e =
    let there : AreVariables (length b) (l.var ∷ m.var ∷ []) = subst (λ (j : Kernel). AreVariables (length b) (vars_of j)) e kernel.variables in
    let left : IsProperIn (l.var ∷ m.var ∷ []) b = subst (λ (j : Kernel). IsProperIn (vars_of j) b) e proper in
    record {
      first = there.each 0 (omega arith);
      second = there.each 1 (omega arith);
      first_proper = left 0 (omega arith);
      second_proper = left 1 (omega arith);
    }

pub record HasThree (b : Bounds) (l m n : Lit) : Type 0 where
  pub first : l.var < length b
  pub second : m.var < length b
  pub third : n.var < length b
  pub first_proper : low_of b l.var ≤ℤ high_of b l.var
  pub second_proper : low_of b m.var ≤ℤ high_of b m.var
  pub third_proper : low_of b n.var ≤ℤ high_of b n.var

pub triple_places : (k : Kernel) (b : Bounds) (l m n : Lit) → IsKernel (length b) k → IsProperIn (vars_of k) b → IsShapeOf k (Triple l m n) → HasThree b l m n
unfolding IsShapeOf vars_of clause_vars
triple_places k b l m n kernel proper e =
    let there : AreVariables (length b) (l.var ∷ m.var ∷ n.var ∷ []) = subst (λ (j : Kernel). AreVariables (length b) (vars_of j)) e kernel.variables in
    let left : IsProperIn (l.var ∷ m.var ∷ n.var ∷ []) b = subst (λ (j : Kernel). IsProperIn (vars_of j) b) e proper in
    record {
      first = there.each 0 (omega arith);
      second = there.each 1 (omega arith);
      third = there.each 2 (omega arith);
      first_proper = left 0 (omega arith);
      second_proper = left 1 (omega arith);
      third_proper = left 2 (omega arith);
    }

-- ---- where a short shape leaves room, no tell of its kernel narrows

swapped : (t u : SmallTerm) → sums_of_two u t ≡ sums_of_two t u
swapped t u =
    let least : (u.least +ℤ t.least) ≡ (t.least +ℤ u.least) = omega (arith, ints) in
    let greatest : (u.greatest +ℤ t.greatest) ≡ (t.greatest +ℤ u.greatest) = omega (arith, ints) in
    let widest : int_max (u.greatest -ℤ u.least) (t.greatest -ℤ t.least) ≡ int_max (t.greatest -ℤ t.least) (u.greatest -ℤ u.least) = omega (arith, ints, clamps) in
    λ i. record { least = least i; greatest = greatest i; widest = widest i }

pub difference_sums : (b : Bounds) (x y : ℕ) (p : Pair) → IsDifferenceIn b x y p → (cs : List ℤ) (vs : List ℕ) → IsDifference cs vs x y → AreSums b cs vs (sums_of_two p.first p.second)
difference_sums b x y p within cs vs (inl (e, f)) =
    let s = sums_of_two p.first p.second in
    subst (λ (c : List ℤ). AreSums b c vs s) (sym e)
    (subst (λ (v : List ℕ). AreSums b (pos 1 ∷ negsuc 0 ∷ []) v s) (sym f)
    (two_sums b p.first p.second (pos 1 ∷ negsuc 0 ∷ []) (x ∷ y ∷ []) refl refl within.first within.second))
difference_sums b x y p within cs vs (inr (e, f)) =
    let s = sums_of_two p.first p.second in
    subst (λ (c : List ℤ). AreSums b c vs s) (sym e)
    (subst (λ (v : List ℕ). AreSums b (negsuc 0 ∷ pos 1 ∷ []) v s) (sym f)
    (subst (λ (r : Sums). AreSums b (negsuc 0 ∷ pos 1 ∷ []) (y ∷ x ∷ []) r) (swapped p.first p.second)
    (two_sums b p.second p.first (negsuc 0 ∷ pos 1 ∷ []) (y ∷ x ∷ []) refl refl within.second within.first)))

module _ (quotients : QuotientOrder) (clamped : ClampOrder) (b : Bounds) (k : Kernel) (kernel : IsKernel (length b) k) (l : Lit) (x y : ℕ) (limit : ℤ) (p : Pair) (within : IsDifferenceIn b x y p) where
  pub at_most_shape : IsShapeOf k (AtMost l x y limit) → IsPairAtMostQuiet b l (to_z w64 (of_z w64 limit)) p → All (Keeps b) (tells k b)
  unfolding IsShapeOf tells HasNumbers
  at_most_shape (cs, vs, e, d) q =
      let linear : IsLinear cs vs limit = subst (λ (j : Kernel). HasNumbers j) e kernel.numbers in
      let Q : ℤ → Type 0 = λ z. IsPairAtMostQuiet b l z p in
      subst (λ (j : Kernel). All (Keeps b) (tells j b)) (sym e)
      (at_most_quiet quotients clamped b l cs vs (sums_of_two p.first p.second) linear.same_length (difference_sums b x y p within cs vs d) limit
      (pair_at_most b l limit p (subst Q (short_number limit linear.limit_in_range) q)))

  pub same_shape : IsShapeOf k (Same l x y limit) → IsPairEquationQuiet b l (to_z w64 (of_z w64 limit)) p → All (Keeps b) (tells k b)
  unfolding IsShapeOf tells HasNumbers
  same_shape (cs, vs, e, d) q =
      let linear : IsLinear cs vs limit = subst (λ (j : Kernel). HasNumbers j) e kernel.numbers in
      let Q : ℤ → Type 0 = λ z. IsPairEquationQuiet b l z p in
      subst (λ (j : Kernel). All (Keeps b) (tells j b)) (sym e)
      (equation_quiet quotients clamped b l cs vs (sums_of_two p.first p.second) linear.same_length (difference_sums b x y p within cs vs d) limit
      (pair_equation b l limit p (subst Q (short_number limit linear.limit_in_range) q)))

pub either_shape : (b : Bounds) (k : Kernel) (l m : Lit) → IsShapeOf k (Either l m) → is_out l b ≡ false → is_out m b ≡ false → All (Keeps b) (tells k b)
unfolding IsShapeOf tells
either_shape b k l m e f g =
    let lits : List Lit = l ∷ m ∷ [] in
    subst (λ (j : Kernel). All (Keeps b) (tells j b)) (sym e) (two_quiet b lits 0 1 l (omega arith) (omega arith) f g)

pub triple_shape : (b : Bounds) (k : Kernel) (l m n : Lit) → IsShapeOf k (Triple l m n) → AreTwoLeft l m n b → All (Keeps b) (tells k b)
unfolding IsShapeOf tells
triple_shape b k l m n e (inl (f, g)) = subst (λ (j : Kernel). All (Keeps b) (tells j b)) (sym e) (two_quiet b (l ∷ m ∷ n ∷ []) 0 1 l (omega arith) (omega arith) f g)
triple_shape b k l m n e (inr (inl (f, g))) = subst (λ (j : Kernel). All (Keeps b) (tells j b)) (sym e) (two_quiet b (l ∷ m ∷ n ∷ []) 0 2 l (omega arith) (omega arith) f g)
triple_shape b k l m n e (inr (inr (f, g))) = subst (λ (j : Kernel). All (Keeps b) (tells j b)) (sym e) (two_quiet b (l ∷ m ∷ n ∷ []) 1 2 l (omega arith) (omega arith) f g)
