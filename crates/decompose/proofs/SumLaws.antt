-- What an inequality and an equation of some terms mean, with each literal, and that they can be run.
use Rattle.std.proofs.Common.{◌≡◌, ◌≢◌, ◌↔◌, ◌⊎◌, inl, inr, ℕ, zero, suc, ℤ, pos, negsuc, ◌+ℤ◌, ◌*ℤ◌, ◌≤ℤ◌, ◌<ℤ◌, ◌<◌, ◌≤◌, unsigned_abs, Bool, true, false, List, [], ◌∷◌, ◌++◌, length, map, get_or, length-append, refl, sym, ap, ◌∙◌, arith, lit≤}
use Rattle.std.specs.Prelude.{IsTrue, slice_index_or}
use Rattle.std.specs.List.{All, zip}
use Rattle.std.specs.Int.RustNames.{int_le}
use Rattle.std.specs.Ordering.{int_eq}
use Rattle.std.proofs.lemmas.Bool.Decides.{Decides-int_eq}
use Rattle.std.proofs.lemmas.Int.{ints}
use Rattle.std.proofs.lemmas.List.{length-map, map-append}
use Rattle.std.proofs.lemmas.List.Elements.{All-nil, All-cons, All-head, All-tail, All-push}
use Rattle.interval.specs.Limits.{IsNumber, largest_number}
use Rattle.guarded_tell.specs.Words.{Lit}
use Rattle.guarded_tell.specs.declared.kernel.Kernel.{Kernel}
use Rattle.guarded_tell.specs.Words.{value_of, literal_true}
use Rattle.sum_tells.specs.Linear.{sum_over, term_limit, term_value, IsLinear}
use Rattle.guarded_tell.specs.Kernels.{IsKernel, vars_of, HasNumbers, Holds as KernelHolds}
use Rattle.constraint_model.specs.declared.model.Term.{Term}
use Rattle.constraint_model.specs.declared.model.VarDecl.{VarDecl}
use Rattle.constraint_model.specs.Limits.{most_entries}
use Rattle.constraint_model.specs.Relations.{value, dot, IsWithin, IsTrueNumber}
use Rattle.constraint_model.specs.WellFormed.{IsDeclaration, IsTermOf}
use Rattle.decompose.specs.Program.{with_constants}
use Rattle.decompose.specs.Kernels.{number_of, variable_of, variables_of, always, never, literal_of, opposite_of, difference, plain_sum, sum_less_third}
use Rattle.decompose.specs.Places.{numbering_of}
use Rattle.decompose.proofs.Means.{HasVariable, MeansOne, size_of}
use Rattle.decompose.proofs.Served.{IsConstant}
use Rattle.decompose.proofs.ConstantLaws.{variable_inside}
use Rattle.decompose.proofs.OneKernel.{iff_itself, iff_through, iff_both, iff_same, iff_true, all_two, profile_number, positive_true, are_variables, variables_inside, two_have, three_have, values_are, sign_means, same_meaning}

-- ---- numbers

small_number : (z : ℤ) → unsigned_abs z ≤ 1 → IsNumber z
unfolding largest_number
small_number z h = omega arith

-- an array's entries are few enough terms, and so is one more
few_terms : (n : ℕ) → n ≤ suc most_entries → n ≤ term_limit
unfolding term_limit
few_terms n h = omega arith

-- the sum over the terms is that of the products of coefficients and values
sum_is_dot : (numbers coeffs : List ℤ) (vars : List ℕ) → sum_over (term_value numbers) (zip coeffs vars) ≡ dot coeffs (map (value_of numbers) vars)
unfolding sum_over
sum_is_dot numbers [] vars = refl
sum_is_dot numbers (c ∷ cs) [] = refl
sum_is_dot numbers (c ∷ cs) (v ∷ vs) = ap (λ (s : ℤ). (c *ℤ value_of numbers v) +ℤ s) (sum_is_dot numbers cs vs)

-- one term more
dot_push : (cs xs : List ℤ) (c x : ℤ) → length cs ≡ length xs → dot (cs ++ c ∷ []) (xs ++ x ∷ []) ≡ dot cs xs +ℤ (c *ℤ x)
dot_push [] [] c x e = omega (arith, ints)
dot_push [] (y ∷ ys) c x e = absurd (omega arith)
dot_push (b ∷ bs) [] c x e = absurd (omega arith)
dot_push (b ∷ bs) (y ∷ ys) c x e =
    let rest = dot_push bs ys c x (omega arith) in
    let product : ℤ = b *ℤ y in
    let more : ℤ = c *ℤ x in
    let whole : ℤ = dot (bs ++ c ∷ []) (ys ++ x ∷ []) in
    let part : ℤ = dot bs ys in
    omega (arith, ints)

-- a sum less a number is 0 where the sum is the number
less_is : (s x : ℤ) → (s +ℤ (negsuc 0 *ℤ x) ≡ pos 0) ↔ (s ≡ x)
less_is s x = (λ h. omega (arith, ints), λ h. omega (arith, ints))

-- x - y is 0, is at most 0, or is at most -1
difference_same : (x y : ℤ) → ((pos 1 *ℤ x) +ℤ ((negsuc 0 *ℤ y) +ℤ pos 0) ≡ pos 0) ↔ (x ≡ y)
difference_same x y = (λ h. omega (arith, ints), λ h. omega (arith, ints))

difference_most : (x y : ℤ) → (((pos 1 *ℤ x) +ℤ ((negsuc 0 *ℤ y) +ℤ pos 0)) ≤ℤ pos 0) ↔ (x ≤ℤ y)
difference_most x y = (λ h. omega (arith, ints), λ h. omega (arith, ints))

difference_less : (x y : ℤ) → (((pos 1 *ℤ x) +ℤ ((negsuc 0 *ℤ y) +ℤ pos 0)) ≤ℤ negsuc 0) ↔ (x <ℤ y)
difference_less x y = (λ h. omega (arith, ints), λ h. omega (arith, ints))

-- x + y - z is 0
sum_is_third : (x y z : ℤ) → ((pos 1 *ℤ x) +ℤ ((pos 1 *ℤ y) +ℤ ((negsuc 0 *ℤ z) +ℤ pos 0)) ≡ pos 0) ↔ (x +ℤ y ≡ z)
sum_is_third x y z = (λ h. omega (arith, ints), λ h. omega (arith, ints))

-- the coefficients of these sums are 1 and -1
abbrev IsUnit : ℤ → Type 0
IsUnit z = unsigned_abs z ≤ 1

unit_difference : All IsUnit difference
unit_difference = all_two IsUnit (pos 1) (negsuc 0) (lit≤ tt) (lit≤ tt)

unit_plain : All IsUnit plain_sum
unit_plain = all_two IsUnit (pos 1) (pos 1) (lit≤ tt) (lit≤ tt)

unit_third : All IsUnit sum_less_third
unit_third = All-cons IsUnit (pos 1) difference (lit≤ tt) unit_difference

-- ---- equivalences

-- what is true exactly where nothing is
iff_false : {B : Type 0} → (⊥ ↔ B) ↔ (B → ⊥)
iff_false = (λ h b. h.1 b, λ h. (λ x. absurd x, λ b. h b))

-- where both are decided: the one isn't true exactly where the other is, or it is exactly where the other isn't
iff_opposite : {A B : Type 0} → A ⊎ (A → ⊥) → B ⊎ (B → ⊥) → ((A → ⊥) ↔ B) ↔ (A ↔ (B → ⊥))
iff_opposite {A} {B} a b = (λ h. (λ x y. h.1 y x, to a h), λ h. (from b h, λ y x. h.0 x y))
  where
    to : A ⊎ (A → ⊥) → ((A → ⊥) ↔ B) → (B → ⊥) → A
    to (inl x) h n = x
    to (inr x) h n = absurd (n (h.0 x))

    from : B ⊎ (B → ⊥) → (A ↔ (B → ⊥)) → (A → ⊥) → B
    from (inl y) h n = y
    from (inr y) h n = absurd (n (h.1 y))

-- what holds exactly where something decided does is decided
decided : {A B : Type 0} → (A ↔ B) → A ⊎ (A → ⊥) → B ⊎ (B → ⊥)
decided f (inl a) = inl (f.0 a)
decided f (inr n) = inr (λ b. n (f.1 b))

pub decide_same : (x y : ℤ) → (x ≡ y) ⊎ (x ≢ y)
decide_same x y = by (int_eq x y) refl
  where
    by : (b : Bool) → int_eq x y ≡ b → (x ≡ y) ⊎ (x ≢ y)
    by true e = inl ((Decides-int_eq x y).0 e)
    by false e = inr (λ s. let t : true ≡ false = sym ((Decides-int_eq x y).1 s) ∙ e in cc)

-- the negative literal of a boolean's variable is true exactly where the boolean isn't
negative_true : (z : ℤ) → IsTrue (int_le z (pos 0)) ↔ (IsTrueNumber z → ⊥)
negative_true z = (λ h g. omega (arith, ints), λ h. by (int_le z (pos 0)) refl h)
  where
    by : (b : Bool) → int_le z (pos 0) ≡ b → (IsTrueNumber z → ⊥) → b ≡ true
    by true e h = refl
    by false e h = absurd (h (omega (arith, ints)))

decide_true : (z : ℤ) → IsTrueNumber z ⊎ (IsTrueNumber z → ⊥)
decide_true z = by (int_le (pos 1) z) refl
  where
    by : (b : Bool) → int_le (pos 1) z ≡ b → IsTrueNumber z ⊎ (IsTrueNumber z → ⊥)
    by true e = inl ((positive_true z).0 e)
    by false e = inr (λ h. let t : true ≡ false = sym ((positive_true z).1 h) ∙ e in cc)

-- ---- booleans

abbrev IsBit : ℤ → Type 0
IsBit z = (pos 0 ≤ℤ z) × (z ≤ℤ pos 1)

-- the bounds of a boolean are 0 and 1, and so are its values
bit_between : (low high z : ℤ) → (low ≡ pos 0) × (high ≡ pos 1) → low ≤ℤ z → z ≤ℤ high → IsBit z
bit_between low high z e l h =
    let least = e.0 in
    let most = e.1 in
    (omega (arith, ints), omega (arith, ints))

bit_at : (vars : List VarDecl) → All IsDeclaration vars → (a : List ℤ) → IsWithin a vars → (v : ℕ) → v < length vars
    → ((d : VarDecl) → (slice_index_or vars v d).is_bool ≡ true) → IsBit (slice_index_or a v (pos 0))
bit_at [] h a w v b same = absurd (omega arith)
bit_at (d ∷ ds) h [] w v b same = absurd w
bit_at (d ∷ ds) h (z ∷ zs) w zero b same = bit_between d.low d.high z ((All-head IsDeclaration d ds h).boolean (same d)) w.0 w.1
bit_at (d ∷ ds) h (z ∷ zs) w (suc v) b same = bit_at ds (All-tail IsDeclaration d ds h) zs w.2 v (omega arith) same

bit_number : (n : ℤ) → (n ≡ pos 0) ⊎ (n ≡ pos 1) → IsBit n
bit_number n (inl e) = (omega (arith, ints), omega (arith, ints))
bit_number n (inr e) = (omega (arith, ints), omega (arith, ints))

-- the value of a boolean is 0 or 1
pub boolean_value : (vars : List VarDecl) → All IsDeclaration vars → (a : List ℤ) → IsWithin a vars → (t : Term) → IsTermOf vars true t → IsBit (value a t)
boolean_value vars declared a w (Term.Number n) h = bit_number n (h.1 refl)
boolean_value vars declared a w (Term.Var v) h = bit_at vars declared a w v h.inside h.same_type

-- the sum of two bits is 1 where they differ
sum_differs : (x y : ℤ) → IsBit x → IsBit y → ((pos 1 *ℤ x) +ℤ ((pos 1 *ℤ y) +ℤ pos 0) ≡ pos 1) ↔ (x ≢ y)
sum_differs x y hx hy = (λ h e. omega (arith, ints, hx.0, hx.1, hy.0, hy.1), by (decide_same ((pos 1 *ℤ x) +ℤ ((pos 1 *ℤ y) +ℤ pos 0)) (pos 1)))
  where
    by : ((pos 1 *ℤ x) +ℤ ((pos 1 *ℤ y) +ℤ pos 0) ≡ pos 1) ⊎ ((pos 1 *ℤ x) +ℤ ((pos 1 *ℤ y) +ℤ pos 0) ≢ pos 1) → x ≢ y → (pos 1 *ℤ x) +ℤ ((pos 1 *ℤ y) +ℤ pos 0) ≡ pos 1
    by (inl e) h = e
    by (inr n) h = absurd (h (omega (arith, ints, hx.0, hx.1, hy.0, hy.1)))

-- ---- constants

-- a constant has the same value under each assignment
pub constant_value : (a : List ℤ) (t : Term) → IsConstant t → value a t ≡ number_of t
constant_value a (Term.Number n) h = refl
constant_value a (Term.Var v) h = absurd h

pub constant_values : (a : List ℤ) (ts : List Term) → All IsConstant ts → map (value a) ts ≡ map number_of ts
constant_values a [] h = refl
constant_values a (t ∷ ts) h =
    let one = constant_value a t (All-head IsConstant t ts h) in
    let rest = constant_values a ts (All-tail IsConstant t ts h) in
    cc

constant_number : (t : Term) → IsConstant t → IsNumber (number_of t)
constant_number (Term.Number n) h = profile_number n h
constant_number (Term.Var v) h = absurd h

constant_numbers : (ts : List Term) → All IsConstant ts → All IsNumber (map number_of ts)
constant_numbers [] h = All-nil IsNumber
constant_numbers (t ∷ ts) h = All-cons IsNumber (number_of t) (map number_of ts) (constant_number t (All-head IsConstant t ts h)) (constant_numbers ts (All-tail IsConstant t ts h))

-- ---- kernels of sums

-- kernels whose literal is true exactly where the sum of the terms has this relation to the limit
pub record IsSumKernel (K : Lit → List ℤ → List ℕ → ℤ → Kernel) (R : ℤ → ℤ → Type 0) : Type 0 where
  pub runs : (count : ℕ) (l : Lit) (coeffs : List ℤ) (places : List ℕ) (limit : ℤ)
      → All (λ v. v < count) (l.var ∷ places) → IsLinear coeffs places limit → IsKernel count (K l coeffs places limit)
  pub holds : (l : Lit) (coeffs : List ℤ) (places : List ℕ) (limit : ℤ) (numbers : List ℤ)
      → KernelHolds (K l coeffs places limit) numbers ↔ (IsTrue (literal_true l (value_of numbers l.var)) ↔ R (sum_over (term_value numbers) (zip coeffs places)) limit)

pub le_kernel : IsSumKernel Kernel.Le (λ s c. s ≤ℤ c)
unfolding vars_of HasNumbers KernelHolds
le_kernel = record {
  runs = λ count l coeffs places limit inside linear. record { variables = are_variables count (l.var ∷ places) inside; numbers = linear };
  holds = λ l coeffs places limit numbers. iff_itself;
}

pub eq_kernel : IsSumKernel Kernel.Eq (λ s c. s ≡ c)
unfolding vars_of HasNumbers KernelHolds
eq_kernel = record {
  runs = λ count l coeffs places limit inside linear. record { variables = are_variables count (l.var ∷ places) inside; numbers = linear };
  holds = λ l coeffs places limit numbers. iff_itself;
}

module _ (vars : List VarDecl) (constants : List ℤ) where
  -- the sum of these terms can be run, and has this relation to the limit exactly where S holds
  pub record IsSumOf (R : ℤ → ℤ → Type 0) (S : List ℤ → Type 0) (coeffs : List ℤ) (terms : List Term) (limit : ℤ) : Type 0 where
    pub has : All (HasVariable vars constants) terms
    pub linear : IsLinear coeffs (variables_of (numbering_of vars constants) terms) limit
    pub meaning : (a : List ℤ) → IsWithin a vars → R (dot coeffs (map (value a) terms)) limit ↔ S a

  -- ---- sums of two and of three terms

  -- coefficients 1 and -1
  are_units : (n : ℕ) (coeffs : List ℤ) (terms : List Term) (limit : ℤ) → length coeffs ≡ n → length terms ≡ n → n ≤ 3 → All (λ z. unsigned_abs z ≤ 1) coeffs → unsigned_abs limit ≤ 1
      → IsLinear coeffs (variables_of (numbering_of vars constants) terms) limit
  are_units n coeffs terms limit ec et few units small =
      let places = length-map {B = ℕ} terms (variable_of (numbering_of vars constants)) in
      record {
        same_length = omega arith;
        short = few_terms (length coeffs) (omega arith);
        coefficients = λ i h. small_number (get_or coeffs i (pos 0)) (units i (pos 0) h);
        limit_in_range = small_number limit small;
      }

  module _ (x y : Term) (hx : HasVariable vars constants x) (hy : HasVariable vars constants y) where
    -- a comparison that a limit of the difference is
    difference_sum : (R C : ℤ → ℤ → Type 0) (limit : ℤ) → unsigned_abs limit ≤ 1
        → ((y z : ℤ) → R ((pos 1 *ℤ y) +ℤ ((negsuc 0 *ℤ z) +ℤ pos 0)) limit ↔ C y z)
        → IsSumOf R (λ a. C (value a x) (value a y)) difference (x ∷ y ∷ []) limit
    difference_sum R C limit small compared = record {
      has = two_have vars constants x y hx hy;
      linear = are_units 2 difference (x ∷ y ∷ []) limit refl refl (lit≤ tt) unit_difference small;
      meaning = λ a w. compared (value a x) (value a y);
    }

    pub same_sum : IsSumOf (λ s c. s ≡ c) (λ a. value a x ≡ value a y) difference (x ∷ y ∷ []) (pos 0)
    same_sum = difference_sum (λ s c. s ≡ c) (λ y z. y ≡ z) (pos 0) (lit≤ tt) difference_same

    pub most_sum : IsSumOf (λ s c. s ≤ℤ c) (λ a. value a x ≤ℤ value a y) difference (x ∷ y ∷ []) (pos 0)
    most_sum = difference_sum (λ s c. s ≤ℤ c) (λ y z. y ≤ℤ z) (pos 0) (lit≤ tt) difference_most

    pub less_sum : IsSumOf (λ s c. s ≤ℤ c) (λ a. value a x <ℤ value a y) difference (x ∷ y ∷ []) (negsuc 0)
    less_sum = difference_sum (λ s c. s ≤ℤ c) (λ y z. y <ℤ z) (negsuc 0) (lit≤ tt) difference_less

    -- two booleans differ where their sum is 1
    pub differing_sum : All IsDeclaration vars → IsTermOf vars true x → IsTermOf vars true y → IsSumOf (λ s c. s ≡ c) (λ a. value a x ≢ value a y) plain_sum (x ∷ y ∷ []) (pos 1)
    differing_sum declared tx ty = record {
      has = two_have vars constants x y hx hy;
      linear = are_units 2 plain_sum (x ∷ y ∷ []) (pos 1) refl refl (lit≤ tt) unit_plain (lit≤ tt);
      meaning = λ a w. sum_differs (value a x) (value a y) (boolean_value vars declared a w x tx) (boolean_value vars declared a w y ty);
    }

    pub third_sum : (z : Term) → HasVariable vars constants z → IsSumOf (λ s c. s ≡ c) (λ a. value a x +ℤ value a y ≡ value a z) sum_less_third (x ∷ y ∷ z ∷ []) (pos 0)
    third_sum z hz = record {
      has = three_have vars constants x y z hx hy hz;
      linear = are_units 3 sum_less_third (x ∷ y ∷ z ∷ []) (pos 0) refl refl (lit≤ tt) unit_third (lit≤ tt);
      meaning = λ a w. sum_is_third (value a x) (value a y) (value a z);
    }

  -- ---- sums of arrays

  -- the coefficients, the terms and the limit of a sum, or its total
  module _ (cs ts : List Term) (short : length cs ≤ most_entries) (same : length cs ≡ length ts)
      (are : All IsConstant cs) (has : All (HasVariable vars constants) ts) where
    pub linear_sum : (R : ℤ → ℤ → Type 0) (limit : Term) → IsConstant limit
        → IsSumOf R (λ a. R (dot (map (value a) cs) (map (value a) ts)) (value a limit)) (map number_of cs) ts (number_of limit)
    linear_sum R limit is = record {
      has = has;
      linear =
          let lc = length-map {B = ℤ} cs number_of in
          let lt = length-map {B = ℕ} ts (variable_of (numbering_of vars constants)) in
          record {
            same_length = omega arith;
            short = few_terms (length (map number_of cs)) (omega arith);
            coefficients = λ i b. constant_numbers cs are i (pos 0) b;
            limit_in_range = constant_number limit is;
          };
      meaning = λ a w.
          iff_through
          (iff_same (λ z. R (dot (map number_of cs) (map (value a) ts)) z) (number_of limit) (value a limit) (sym (constant_value a limit is)))
          (iff_same (λ z. R z (value a limit)) (dot (map number_of cs) (map (value a) ts)) (dot (map (value a) cs) (map (value a) ts))
          (ap (λ (zs : List ℤ). dot zs (map (value a) ts)) (sym (constant_values a cs are))));
    }

    -- the total is one term more, with the coefficient -1
    pub total_sum : (total : Term) → HasVariable vars constants total
        → IsSumOf (λ s c. s ≡ c) (λ a. dot (map (value a) cs) (map (value a) ts) ≡ value a total) (map number_of cs ++ negsuc 0 ∷ []) (ts ++ total ∷ []) (pos 0)
    total_sum total h = record {
      has = All-push (HasVariable vars constants) ts total has h;
      linear =
          let lc = length-map {B = ℤ} cs number_of in
          let ac = length-append (map number_of cs) (negsuc 0 ∷ []) in
          let at = length-append ts (total ∷ []) in
          let lt = length-map {B = ℕ} (ts ++ total ∷ []) (variable_of (numbering_of vars constants)) in
          record {
            same_length = omega arith;
            short = few_terms (length (map number_of cs ++ negsuc 0 ∷ [])) (omega arith);
            coefficients = λ i b. All-push IsNumber (map number_of cs) (negsuc 0) (constant_numbers cs are) (small_number (negsuc 0) (lit≤ tt)) i (pos 0) b;
            limit_in_range = small_number (pos 0) (lit≤ tt);
          };
      meaning = λ a w.
          let numbers = map number_of cs in
          let values = map (value a) ts in
          let lc = length-map {B = ℤ} cs number_of in
          let lt = length-map {B = ℤ} ts (value a) in
          iff_through
          (iff_same (λ z. z ≡ pos 0) (dot (numbers ++ negsuc 0 ∷ []) (map (value a) (ts ++ total ∷ []))) (dot numbers values +ℤ (negsuc 0 *ℤ value a total))
          (ap (dot (numbers ++ negsuc 0 ∷ [])) (map-append (value a) ts (total ∷ [])) ∙ dot_push numbers values (negsuc 0) (value a total) (omega arith)))
          (iff_through
          (less_is (dot numbers values) (value a total))
          (iff_same (λ z. z ≡ value a total) (dot numbers values) (dot (map (value a) cs) values) (ap (λ (zs : List ℤ). dot zs values) (sym (constant_values a cs are)))));
    }

  -- ---- the literals

  module _ {K : Lit → List ℤ → List ℕ → ℤ → Kernel} {R : ℤ → ℤ → Type 0} (k : IsSumKernel K R)
      {S : List ℤ → Type 0} {coeffs : List ℤ} {terms : List Term} {limit : ℤ} (s : IsSumOf R S coeffs terms limit) where
    -- with a literal that is true where P holds: P holds exactly where S does
    sum_is : (P : List ℤ → Type 0) (l : Lit) → l.var < size_of vars constants
        → ((a : List ℤ) → IsWithin a vars → IsTrue (literal_true l (value_of (with_constants constants a) l.var)) ↔ P a)
        → MeansOne vars constants (λ a. P a ↔ S a) (K l coeffs (variables_of (numbering_of vars constants) terms) limit)
    sum_is P l inside lit = record {
      can_run =
          k.runs (size_of vars constants) l coeffs (variables_of (numbering_of vars constants) terms) limit
          (All-cons (λ v. v < size_of vars constants) l.var (variables_of (numbering_of vars constants) terms) inside (variables_inside vars constants terms s.has)) s.linear;
      meaning = λ a w.
          let numbers = with_constants constants a in
          iff_through (k.holds l coeffs (variables_of (numbering_of vars constants) terms) limit numbers)
          (iff_both (lit a w)
          (iff_through
          (iff_same (λ z. R z limit) (sum_over (term_value numbers) (zip coeffs (variables_of (numbering_of vars constants) terms))) (dot coeffs (map (value a) terms))
          (sum_is_dot numbers coeffs (variables_of (numbering_of vars constants) terms) ∙ ap (dot coeffs) (values_are vars constants a w terms s.has)))
          (s.meaning a w)));
    }

    -- with the literal that is always true, and with the one that is always false
    pub always_means : MeansOne vars constants S (K always coeffs (variables_of (numbering_of vars constants) terms) limit)
    always_means =
        same_meaning vars constants (λ a. Unit {0} ↔ S a) S (K always coeffs (variables_of (numbering_of vars constants) terms) limit)
        (sum_is (λ a. Unit {0}) always (omega arith) (λ a w. (λ h. tt, λ u. refl)))
        (λ a w. iff_true tt)

    pub never_means : MeansOne vars constants (λ a. S a → ⊥) (K never coeffs (variables_of (numbering_of vars constants) terms) limit)
    never_means =
        same_meaning vars constants (λ a. ⊥ ↔ S a) (λ a. S a → ⊥) (K never coeffs (variables_of (numbering_of vars constants) terms) limit)
        (sum_is (λ a. ⊥) never (omega arith) (λ a w. (λ h. let e : false ≡ true = h in cc, λ x. absurd x)))
        (λ a w. iff_false)

    -- with the literal of a boolean, and with its opposite
    pub literal_means : (r : Term) → HasVariable vars constants r → MeansOne vars constants (λ a. IsTrueNumber (value a r) ↔ S a) (K (literal_of (numbering_of vars constants) r) coeffs (variables_of (numbering_of vars constants) terms) limit)
    literal_means r has = sum_is (λ a. IsTrueNumber (value a r)) (literal_of (numbering_of vars constants) r) (variable_inside vars constants r has) (λ a w. sign_means vars constants a w true IsTrueNumber positive_true r has)

    pub opposite_means : ((x y : ℤ) → R x y ⊎ (R x y → ⊥)) → (r : Term) → HasVariable vars constants r
        → MeansOne vars constants (λ a. IsTrueNumber (value a r) ↔ (S a → ⊥)) (K (opposite_of (numbering_of vars constants) r) coeffs (variables_of (numbering_of vars constants) terms) limit)
    opposite_means decide r has =
        same_meaning vars constants (λ a. (IsTrueNumber (value a r) → ⊥) ↔ S a) (λ a. IsTrueNumber (value a r) ↔ (S a → ⊥)) (K (opposite_of (numbering_of vars constants) r) coeffs (variables_of (numbering_of vars constants) terms) limit)
        (sum_is (λ a. IsTrueNumber (value a r) → ⊥) (opposite_of (numbering_of vars constants) r) (variable_inside vars constants r has) (λ a w. sign_means vars constants a w false (λ z. IsTrueNumber z → ⊥) negative_true r has))
        (λ a w. iff_opposite (decide_true (value a r)) (decided (s.meaning a w) (decide (dot coeffs (map (value a) terms)) limit)))
