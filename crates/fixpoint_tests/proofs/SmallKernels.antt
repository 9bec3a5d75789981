-- What drawn kernels have to meet.
use Rattle.std.proofs.Common.{◌≡◌, ℕ, ℤ, pos, ◌<◌, ◌≤◌, ◌≤ℤ◌, ◌<ℤ◌, ◌+ℤ◌, List, [], ◌∷◌, length, replicate, map, ap, subst, sym, arith, w64, to_z, of_z}
use Rattle.std.specs.Prelude.{unsigned_abs}
use Rattle.std.specs.List.{All}
use Rattle.std.proofs.lemmas.Int.{ints, to_z-of_z, fits_signed_from_abs}
use Rattle.std.proofs.lemmas.List.{get_or-replicate}
use Rattle.std.proofs.lemmas.List.Elements.{All-nil, All-cons, All-head, All-tail, All-get_or}
use Rattle.std.proofs.lemmas.List.Kept.{AllPairs-cons}
use Rattle.interval.specs.Limits.{IsNumber, IsBound, bound_limit, largest_number, box_limit}
use Rattle.interval.specs.Boxes.{IsInRange}
use Rattle.guarded_tell.specs.Words.{Lit}
use Rattle.guarded_tell.specs.declared.kernel.Kernel.TheVariants.{Le, Eq, Times, Div, Mod, Abs, Max, Min, Clause, Element, InSet}
use Rattle.guarded_tell.specs.Words.{AreVariables}
use Rattle.sum_tells.specs.Linear.{IsLinear, term_limit}
use Rattle.extreme_tells.specs.Extremes.{member_limit}
use Rattle.clause_tells.specs.Clause.{clause_vars, literal_limit}
use Rattle.set_tells.specs.InSet.{IsSet, range_limit}
use Rattle.guarded_tell.specs.Kernels.{vars_of, HasNumbers, IsKernel}

-- ---- lists of three

pub all_three : {X : Type 0} (P : X → Type 0) (x y z : X) (xs : List X) → xs ≡ x ∷ y ∷ z ∷ [] → P x → P y → P z → All P xs
all_three P x y z xs e p q r = subst (All P) (sym e) (All-cons P x (y ∷ z ∷ []) p (All-cons P y (z ∷ []) q (All-cons P z [] r (All-nil P))))

abbrev Below : List ℕ → Type 0
Below vs = All (λ v. v < 40) vs

are_variables : (vs : List ℕ) → Below vs → AreVariables 40 vs
are_variables vs all = record { each = λ i h. All-get_or (λ v. v < 40) vs i 0 h all }

more : (v : ℕ) (vs : List ℕ) → v < 40 → Below vs → Below (v ∷ vs)
more v vs h all = All-cons (λ w. w < 40) v vs h all

none : Below []
none = All-nil (λ w. w < 40)

-- ---- kernels

-- a small number is read as it was written
pub read_back : (z : ℤ) → unsigned_abs z ≤ 9 → to_z w64 (of_z w64 z) ≡ z
read_back z h = to_z-of_z w64 z (fits_signed_from_abs w64 z (omega arith))

linear : (coeffs : List ℤ) (vars : List ℕ) (limit : ℤ) → All (λ z. unsigned_abs z ≤ 9) coeffs → length coeffs ≡ 3 → length vars ≡ 3 → unsigned_abs limit ≤ 9 → IsLinear coeffs vars limit
unfolding term_limit largest_number
linear coeffs vars limit all n m h = record {
  same_length = omega arith;
  short = omega arith;
  coefficients = λ i l. (let k = All-get_or (λ (z : ℤ). unsigned_abs z ≤ 9) coeffs i (pos 0) l all in omega arith);
  limit_in_range = omega arith;
}

module _ (l : Lit) (coeffs : List ℤ) (vars : List ℕ) (limit z : ℤ) (e : z ≡ limit) (h : l.var < 40) (small : All (λ z. unsigned_abs z ≤ 9) coeffs) (n : length coeffs ≡ 3)
    (below : All (λ v. v < 40) vars) (m : length vars ≡ 3) (k : unsigned_abs limit ≤ 9) where
  pub at_most_made : IsKernel 40 (Le l coeffs vars z)
  unfolding vars_of HasNumbers
  at_most_made = subst (λ (y : ℤ). IsKernel 40 (Le l coeffs vars y)) (sym e) (record { variables = are_variables (l.var ∷ vars) (more l.var vars h below); numbers = linear coeffs vars limit small n m k })

  pub equal_made : IsKernel 40 (Eq l coeffs vars z)
  unfolding vars_of HasNumbers
  equal_made = subst (λ (y : ℤ). IsKernel 40 (Eq l coeffs vars y)) (sym e) (record { variables = are_variables (l.var ∷ vars) (more l.var vars h below); numbers = linear coeffs vars limit small n m k })

-- the kernel of an equation with its lists as they stand
pub parted_made : (l : Lit) (coeffs cs : List ℤ) (vars vs : List ℕ) (z : ℤ) → cs ≡ coeffs → vs ≡ vars → IsKernel 40 (Eq l coeffs vars z) → IsKernel 40 (Eq l cs vs z)
parted_made l coeffs cs vars vs z e f made = subst (λ (xs : List ℕ). IsKernel 40 (Eq l cs xs z)) (sym f) (subst (λ (xs : List ℤ). IsKernel 40 (Eq l xs vars z)) (sym e) made)

module _ (x y z : ℕ) (p : x < 40) (q : y < 40) (r : z < 40) where
  three_variables : AreVariables 40 (x ∷ y ∷ z ∷ [])
  three_variables = are_variables (x ∷ y ∷ z ∷ []) (more x (y ∷ z ∷ []) p (more y (z ∷ []) q (more z [] r none)))

  pub product_made : IsKernel 40 (Times x y z)
  unfolding vars_of HasNumbers
  product_made = record { variables = three_variables; numbers = tt }

  pub quotient_made : IsKernel 40 (Div x y z)
  unfolding vars_of HasNumbers
  quotient_made = record { variables = three_variables; numbers = tt }

  pub remainder_made : IsKernel 40 (Mod x y z)
  unfolding vars_of HasNumbers
  remainder_made = record { variables = three_variables; numbers = tt }

pub absolute_made : (x y : ℕ) → x < 40 → y < 40 → IsKernel 40 (Abs x y)
unfolding vars_of HasNumbers
absolute_made x y p q = record { variables = are_variables (x ∷ y ∷ []) (more x (y ∷ []) p (more y [] q none)); numbers = tt }

short_three : (xs : List ℕ) → length xs ≡ 3 → length xs ≤ member_limit
unfolding member_limit
short_three xs n = omega arith

module _ (m : ℕ) (xs : List ℕ) (h : m < 40) (below : All (λ v. v < 40) xs) (n : length xs ≡ 3) where
  pub greatest_made : IsKernel 40 (Max m xs)
  unfolding vars_of HasNumbers
  greatest_made = record { variables = are_variables (m ∷ xs) (more m xs h below); numbers = short_three xs n }

  pub least_made : IsKernel 40 (Min m xs)
  unfolding vars_of HasNumbers
  least_made = record { variables = are_variables (m ∷ xs) (more m xs h below); numbers = short_three xs n }

their_vars : (lits : List Lit) → All (λ l. l.var < 40) lits → Below (map (λ k. k.var) lits)
their_vars [] all = none
their_vars (l ∷ ls) all = more l.var (map (λ k. k.var) ls) (All-head (λ (k : Lit). k.var < 40) l ls all) (their_vars ls (All-tail (λ (k : Lit). k.var < 40) l ls all))

their_clause_vars : (lits : List Lit) → All (λ l. l.var < 40) lits → Below (clause_vars lits)
unfolding clause_vars
their_clause_vars [] all = more 0 [] (omega arith) none
their_clause_vars (l ∷ ls) all = their_vars (l ∷ ls) all

short_clause : (lits : List Lit) → length lits ≡ 3 → length lits ≤ literal_limit
unfolding literal_limit
short_clause lits n = omega arith

pub clause_made : (lits : List Lit) → All (λ l. l.var < 40) lits → length lits ≡ 3 → IsKernel 40 (Clause lits)
unfolding vars_of HasNumbers
clause_made lits all n = record { variables = are_variables (clause_vars lits) (their_clause_vars lits all); numbers = short_clause lits n }

pub element_made : (x : ℕ) (entries : List ℕ) (c : ℕ) → x < 40 → c < 40 → All (λ v. v < 40) entries → length entries ≡ 3 → IsKernel 40 (Element x entries c)
unfolding vars_of HasNumbers
element_made x entries c p q below n = record { variables = are_variables (x ∷ c ∷ entries) (more x (c ∷ entries) p (more c entries q below)); numbers = short_three entries n }

-- two ranges of small numbers that don't touch
pub record AreApart (lower upper : ℤ × ℤ) : Type 0 where
  pub lower_first : unsigned_abs lower.0 ≤ 99
  pub lower_last : unsigned_abs lower.1 ≤ 99
  pub upper_first : unsigned_abs upper.0 ≤ 99
  pub upper_last : unsigned_abs upper.1 ≤ 99
  pub lower_order : lower.0 ≤ℤ lower.1
  pub upper_order : upper.0 ≤ℤ upper.1
  pub apart : (lower.1 +ℤ pos 1) <ℤ upper.0

both : {X : Type 0} (P : X → Type 0) (x y : X) → P x → P y → All P (x ∷ y ∷ [])
both P x y p q = All-cons P x (y ∷ []) p (All-cons P y [] q (All-nil P))

small_number : (z : ℤ) → unsigned_abs z ≤ 99 → IsNumber z
unfolding largest_number
small_number z h = omega arith

two_short : 2 ≤ range_limit
unfolding range_limit
two_short = omega arith

pub two_ranges : (lower upper : ℤ × ℤ) → AreApart lower upper → IsSet (lower ∷ upper ∷ [])
two_ranges lower upper h = record {
  short = two_short;
  firsts = both (λ r. IsNumber r.0) lower upper (small_number lower.0 h.lower_first) (small_number upper.0 h.upper_first);
  lasts = both (λ r. IsNumber r.1) lower upper (small_number lower.1 h.lower_last) (small_number upper.1 h.upper_last);
  ordered = both (λ r. r.0 ≤ℤ r.1) lower upper h.lower_order h.upper_order;
  apart = AllPairs-cons (λ r s. (r.1 +ℤ pos 1) <ℤ s.0) lower (upper ∷ [])
      (All-cons (λ s. (lower.1 +ℤ pos 1) <ℤ s.0) upper [] h.apart (All-nil (λ s. (lower.1 +ℤ pos 1) <ℤ s.0)))
      (AllPairs-cons (λ r s. (r.1 +ℤ pos 1) <ℤ s.0) upper [] (All-nil (λ s. (upper.1 +ℤ pos 1) <ℤ s.0)) (λ i j d e l. absurd (omega arith)));
}

pub set_made : (l : Lit) (x : ℕ) (ranges : List (ℤ × ℤ)) → l.var < 40 → x < 40 → IsSet ranges → IsKernel 40 (InSet l x ranges)
unfolding vars_of HasNumbers
set_made l x ranges p q h = record { variables = are_variables (l.var ∷ x ∷ []) (more l.var (x ∷ []) p (more x [] q none)); numbers = h }
