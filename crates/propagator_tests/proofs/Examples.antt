-- What the boxes of four variables and the kernels of the tests have to meet.
use Rattle.std.proofs.Common.{◌≡◌, ℕ, zero, suc, ◌<◌, ◌≤◌, List, [], ◌∷◌, length, get_or, true, false, ltb, ℤ, pos, ◌+ℤ◌, ◌≤ℤ◌, ◌<ℤ◌, refl, sym, ◌∙◌, ap, subst, arith}
use Rattle.std.proofs.lemmas.Int.{ints}
use Rattle.std.proofs.lemmas.Bool.{ltb-true}
use Rattle.std.proofs.lemmas.List.Sums.{AllPass-from_list_all}
use Rattle.std.proofs.lemmas.List.Elements.{All-nil, All-cons}
use Rattle.std.specs.List.{All, AllPairs, list_all}
use Rattle.std.specs.Prelude.{slice_index, slice_index_or}
use Rattle.guarded_tell.specs.Words.{Lit}
use Rattle.guarded_tell.specs.Words.{Tell}
use Rattle.guarded_tell.specs.declared.kernel.Kernel.{Kernel}
use Rattle.guarded_tell.specs.declared.kernel.Kernel.TheVariants.{Le, Eq, Times, Div, Mod, Abs, Max, Min, Clause, Element, InSet, AllDiff, Cumulative}
use Rattle.interval.specs.Limits.{IsBound, IsNumber, largest_number, box_limit}
use Rattle.interval.specs.Boxes.{Bounds, IsInRange, IsProper, low_of, high_of}
use Rattle.guarded_tell.specs.Words.{IsProperIn, AreVariables}
use Rattle.sum_tells.specs.Linear.{IsLinear, term_limit}
use Rattle.extreme_tells.specs.Extremes.{member_limit}
use Rattle.clause_tells.specs.Clause.{clause_vars, literal_limit}
use Rattle.clause_tells.specs.Literals.{literals_by_sign}
use Rattle.set_tells.specs.InSet.{IsSet, range_limit}
use Rattle.global_tells.specs.Ranges.{place_limit}
use Rattle.global_tells.specs.Cumulative.{AreTasks, IsAmount}
use Rattle.guarded_tell.specs.Hearing.{MayHearAll}
use Rattle.guarded_tell.specs.Kernels.{vars_of, HasNumbers, IsKernel}

-- ---- boxes

-- a box of four pairs of bounds
abbrev pub AreBounds : ℤ × ℤ → Type 0
AreBounds p = IsBound p.0 × IsBound p.1

module _ (p q r s : ℤ × ℤ) (a : AreBounds p) (b : AreBounds q) (c : AreBounds r) (d : AreBounds s) where
  lows : (v : ℕ) → v < 4 → IsBound (low_of (p ∷ q ∷ r ∷ s ∷ []) v)
  lows zero h = a.0
  lows (suc zero) h = b.0
  lows (suc (suc zero)) h = c.0
  lows (suc (suc (suc zero))) h = d.0
  lows (suc (suc (suc (suc v)))) h = absurd (omega arith)

  highs : (v : ℕ) → v < 4 → IsBound (high_of (p ∷ q ∷ r ∷ s ∷ []) v)
  highs zero h = a.1
  highs (suc zero) h = b.1
  highs (suc (suc zero)) h = c.1
  highs (suc (suc (suc zero))) h = d.1
  highs (suc (suc (suc (suc v)))) h = absurd (omega arith)

  pub four_in_range : IsInRange (p ∷ q ∷ r ∷ s ∷ [])
  unfolding box_limit
  four_in_range = record { short = omega arith; lows = λ v h. lows v (omega arith); highs = λ v h. highs v (omega arith) }

-- a proper box of four variables is proper in a kernel's variables
pub proper_in_four : (k : Kernel) (b : Bounds) → IsKernel 4 k → length b ≡ 4 → IsProper b → IsProperIn (vars_of k) b
proper_in_four k b kernel four proper i h = proper (slice_index (vars_of k) i) (omega (arith, four, kernel.variables.each i h))

-- the kernel can be run on a box of four variables
pub kernel_on_four : (k : Kernel) (b : Bounds) → IsKernel 4 k → length b ≡ 4 → IsKernel (length b) k
kernel_on_four k b kernel four = subst (λ n. IsKernel n k) (sym four) kernel

-- a hearer that may always hear may hear any list
pub may_hear_any : {H : Type 0} (hears : H → Tell → H → Type 0) (h : H) (ts : List Tell) → MayHearAll (λ _ _. Unit {0}) hears h ts
may_hear_any hears h [] = tt
may_hear_any hears h (t ∷ ts) = (tt, λ mid heard. may_hear_any hears mid ts)

-- variables below four
below_four : (vars : List ℕ) → list_all (λ v. ltb v 4) vars ≡ true → AreVariables 4 vars
below_four vars e = record { each = λ i h. ltb-true (get_or vars i 0) 4 (AllPass-from_list_all (λ v. ltb v 4) vars e i 0 h) }

-- ---- linear kernels

two_short : 2 ≤ term_limit
unfolding term_limit
two_short = omega arith

two_coefficients : (a c : ℤ) → IsNumber a → IsNumber c → (i : ℕ) → i < 2 → IsNumber (slice_index_or (a ∷ c ∷ []) i (pos 0))
two_coefficients a c h k zero l = h
two_coefficients a c h k (suc zero) l = k
two_coefficients a c h k (suc (suc i)) l = absurd (omega arith)

-- two terms whose numbers are those of a model
abbrev pub AreNumbers : ℤ → ℤ → ℤ → Type 0
AreNumbers a c limit = IsNumber a × IsNumber c × IsNumber limit

two_linear : (a c limit : ℤ) → AreNumbers a c limit → IsLinear (a ∷ c ∷ []) (1 ∷ 2 ∷ []) limit
two_linear a c limit n = record {
  same_length = refl;
  short = two_short;
  coefficients = λ i h. two_coefficients a c n.0 n.1 i (omega arith);
  limit_in_range = n.2;
}

two_made : (coeffs : List ℤ) (vars : List ℕ) (a c limit number : ℤ) → coeffs ≡ a ∷ c ∷ [] → vars ≡ 1 ∷ 2 ∷ [] → limit ≡ number → AreNumbers a c number → IsLinear coeffs vars limit
two_made coeffs vars a c limit number e f g n =
    subst (λ (z : ℤ). IsLinear coeffs vars z) (sym g)
    (subst (λ (vs : List ℕ). IsLinear coeffs vs number) (sym f)
    (subst (λ (cs : List ℤ). IsLinear cs (1 ∷ 2 ∷ []) number) (sym e) (two_linear a c number n)))

two_variables : (v : ℕ) (vars : List ℕ) → v ≡ 0 → vars ≡ 1 ∷ 2 ∷ [] → AreVariables 4 (v ∷ vars)
two_variables v vars z f =
    subst (λ (vs : List ℕ). AreVariables 4 (v ∷ vs)) (sym f)
    (subst (λ (w : ℕ). AreVariables 4 (w ∷ 1 ∷ 2 ∷ [])) (sym z) (below_four (0 ∷ 1 ∷ 2 ∷ []) refl))

pub inequality_made : (l : Lit) (coeffs : List ℤ) (vars : List ℕ) (a c limit number : ℤ) → l.var ≡ 0 → coeffs ≡ a ∷ c ∷ [] → vars ≡ 1 ∷ 2 ∷ [] → limit ≡ number → AreNumbers a c number → IsKernel 4 (Le l coeffs vars limit)
unfolding vars_of HasNumbers
inequality_made l coeffs vars a c limit number z e f g n =
    record { variables = two_variables l.var vars z f; numbers = two_made coeffs vars a c limit number e f g n }

pub equation_made : (l : Lit) (coeffs : List ℤ) (vars : List ℕ) (a c limit number : ℤ) → l.var ≡ 0 → coeffs ≡ a ∷ c ∷ [] → vars ≡ 1 ∷ 2 ∷ [] → limit ≡ number → AreNumbers a c number → IsKernel 4 (Eq l coeffs vars limit)
unfolding vars_of HasNumbers
equation_made l coeffs vars a c limit number z e f g n =
    record { variables = two_variables l.var vars z f; numbers = two_made coeffs vars a c limit number e f g n }

three_coefficients : (a c d : ℤ) → IsNumber a → IsNumber c → IsNumber d → (i : ℕ) → i < 3 → IsNumber (slice_index_or (a ∷ c ∷ d ∷ []) i (pos 0))
three_coefficients a c d h k m zero l = h
three_coefficients a c d h k m (suc zero) l = k
three_coefficients a c d h k m (suc (suc zero)) l = m
three_coefficients a c d h k m (suc (suc (suc i))) l = absurd (omega arith)

three_short : 3 ≤ term_limit
unfolding term_limit
three_short = omega arith

module _ (coeffs : List ℤ) (vars : List ℕ) (a c d limit number : ℤ) (e : coeffs ≡ a ∷ c ∷ d ∷ []) (f : vars ≡ 1 ∷ 2 ∷ 3 ∷ []) (g : limit ≡ number) (numbers : IsNumber a × IsNumber c × IsNumber d × IsNumber number) where
  three_linear : IsLinear (a ∷ c ∷ d ∷ []) (1 ∷ 2 ∷ 3 ∷ []) number
  three_linear = record {
    same_length = refl;
    short = three_short;
    coefficients = λ i h. three_coefficients a c d numbers.0 numbers.1 numbers.2 i (omega arith);
    limit_in_range = numbers.3;
  }

  three_made : IsLinear coeffs vars limit
  three_made =
      subst (λ (z : ℤ). IsLinear coeffs vars z) (sym g)
      (subst (λ (vs : List ℕ). IsLinear coeffs vs number) (sym f)
      (subst (λ (cs : List ℤ). IsLinear cs (1 ∷ 2 ∷ 3 ∷ []) number) (sym e) three_linear))

  three_of : (v : ℕ) → v ≡ 0 → AreVariables 4 (v ∷ vars)
  three_of v z =
      subst (λ (vs : List ℕ). AreVariables 4 (v ∷ vs)) (sym f)
      (subst (λ (w : ℕ). AreVariables 4 (w ∷ 1 ∷ 2 ∷ 3 ∷ [])) (sym z) (below_four (0 ∷ 1 ∷ 2 ∷ 3 ∷ []) refl))

  pub long_inequality_made : (l : Lit) → l.var ≡ 0 → IsKernel 4 (Le l coeffs vars limit)
  unfolding vars_of HasNumbers
  long_inequality_made l z = record { variables = three_of l.var z; numbers = three_made }

  pub long_equation_made : (l : Lit) → l.var ≡ 0 → IsKernel 4 (Eq l coeffs vars limit)
  unfolding vars_of HasNumbers
  long_equation_made l z = record { variables = three_of l.var z; numbers = three_made }

none_linear : (limit : ℤ) → IsNumber limit → IsLinear [] [] limit
none_linear limit n = record { same_length = refl; short = omega arith; coefficients = λ i h. absurd (omega arith); limit_in_range = n }

pub no_terms_made : (l : Lit) (coeffs : List ℤ) (vars : List ℕ) (limit number : ℤ) → l.var ≡ 0 → coeffs ≡ [] → vars ≡ [] → limit ≡ number → IsNumber number → IsKernel 4 (Le l coeffs vars limit)
unfolding vars_of HasNumbers
no_terms_made l coeffs vars limit number z e f g n = record {
  variables =
      subst (λ (vs : List ℕ). AreVariables 4 (l.var ∷ vs)) (sym f)
      (subst (λ (w : ℕ). AreVariables 4 (w ∷ [])) (sym z) (below_four (0 ∷ []) refl));
  numbers =
      subst (λ (y : ℤ). IsLinear coeffs vars y) (sym g)
      (subst (λ (vs : List ℕ). IsLinear coeffs vs number) (sym f)
      (subst (λ (cs : List ℤ). IsLinear cs [] number) (sym e) (none_linear number n)));
}

-- ---- arithmetic kernels

pub product_kernel : IsKernel 4 (Times 0 1 2)
unfolding vars_of HasNumbers
product_kernel = record { variables = below_four (0 ∷ 1 ∷ 2 ∷ []) refl; numbers = tt }

three_variables : (x y z : ℕ) → x < 4 → y < 4 → z < 4 → (i : ℕ) → i < 3 → slice_index (x ∷ y ∷ z ∷ []) i < 4
three_variables x y z p q r zero h = p
three_variables x y z p q r (suc zero) h = q
three_variables x y z p q r (suc (suc zero)) h = r
three_variables x y z p q r (suc (suc (suc i))) h = absurd (omega arith)

pub quotient_kernel : (x y z : ℕ) → x < 4 → y < 4 → z < 4 → IsKernel 4 (Div x y z)
unfolding vars_of HasNumbers
quotient_kernel x y z p q r = record { variables = record { each = λ i h. three_variables x y z p q r i (omega arith) }; numbers = tt }

pub remainder_kernel : (x y z : ℕ) → x < 4 → y < 4 → z < 4 → IsKernel 4 (Mod x y z)
unfolding vars_of HasNumbers
remainder_kernel x y z p q r = record { variables = record { each = λ i h. three_variables x y z p q r i (omega arith) }; numbers = tt }

pub absolute_kernel : IsKernel 4 (Abs 0 1)
unfolding vars_of HasNumbers
absolute_kernel = record { variables = below_four (0 ∷ 1 ∷ []) refl; numbers = tt }

-- ---- lists

few_members : (n : ℕ) → n ≤ 9 → n ≤ member_limit
unfolding member_limit
few_members n h = omega arith

few_literals : (n : ℕ) → n ≤ 9 → n ≤ literal_limit
unfolding literal_limit
few_literals n h = omega arith

pub greatest_made : (xs : List ℕ) → xs ≡ 1 ∷ 2 ∷ [] → IsKernel 4 (Max 0 xs)
unfolding vars_of HasNumbers
greatest_made xs e = subst (λ (ys : List ℕ). IsKernel 4 (Max 0 ys)) (sym e) (record { variables = below_four (0 ∷ 1 ∷ 2 ∷ []) refl; numbers = few_members 2 (omega arith) })

pub least_made : (xs : List ℕ) → xs ≡ 1 ∷ 2 ∷ [] → IsKernel 4 (Min 0 xs)
unfolding vars_of HasNumbers
least_made xs e = subst (λ (ys : List ℕ). IsKernel 4 (Min 0 ys)) (sym e) (record { variables = below_four (0 ∷ 1 ∷ 2 ∷ []) refl; numbers = few_members 2 (omega arith) })

pub element_made : (xs : List ℕ) → xs ≡ 2 ∷ 3 ∷ 2 ∷ [] → IsKernel 4 (Element 0 xs 1)
unfolding vars_of HasNumbers
element_made xs e = subst (λ (ys : List ℕ). IsKernel 4 (Element 0 ys 1)) (sym e) (record { variables = below_four (0 ∷ 1 ∷ 2 ∷ 3 ∷ 2 ∷ []) refl; numbers = few_members 3 (omega arith) })

pub clause_made : (lits : List Lit) → lits ≡ record { var = 0; positive = true } ∷ record { var = 1; positive = false } ∷ [] → IsKernel 4 (Clause lits)
unfolding vars_of HasNumbers clause_vars
clause_made lits e = subst (λ (ls : List Lit). IsKernel 4 (Clause ls)) (sym e) (record { variables = below_four (0 ∷ 1 ∷ []) refl; numbers = few_literals 2 (omega arith) })

pub clause_of_three_made : (lits : List Lit) → lits ≡ record { var = 0; positive = true } ∷ record { var = 1; positive = false } ∷ record { var = 2; positive = true } ∷ [] → IsKernel 4 (Clause lits)
unfolding vars_of HasNumbers clause_vars
clause_of_three_made lits e = subst (λ (ls : List Lit). IsKernel 4 (Clause ls)) (sym e) (record { variables = below_four (0 ∷ 1 ∷ 2 ∷ []) refl; numbers = few_literals 3 (omega arith) })

pub signed_clause_made : (lits : List Lit) (ps ns : List ℕ) → lits ≡ literals_by_sign ps ns → ps ≡ 0 ∷ [] → ns ≡ 1 ∷ [] → IsKernel 4 (Clause lits)
signed_clause_made lits ps ns e f g = clause_made lits (e ∙ ap (λ (xs : List ℕ). literals_by_sign xs ns) f ∙ ap (literals_by_sign (0 ∷ [])) g)

pub no_literals_made : (lits : List Lit) → lits ≡ [] → IsKernel 4 (Clause lits)
unfolding vars_of HasNumbers clause_vars
no_literals_made lits e = subst (λ (ls : List Lit). IsKernel 4 (Clause ls)) (sym e) (record { variables = below_four (0 ∷ []) refl; numbers = few_literals 0 (omega arith) })

-- ---- sets

-- the numbers from `first` to 1, from 4 to `middle` and from 9 to `last`
abbrev pub three_ranges : ℤ → ℤ → ℤ → List (ℤ × ℤ)
three_ranges first middle last = (first, pos 1) ∷ (pos 4, middle) ∷ (pos 9, last) ∷ []

pub record AreEnds (first middle last : ℤ) : Type 0 where
  pub first_number : IsNumber first
  pub last_number : IsNumber last
  pub first_range : first ≤ℤ pos 1
  pub middle_range : pos 4 ≤ℤ middle
  pub apart : middle ≤ℤ pos 7
  pub last_range : pos 9 ≤ℤ last

module _ (first middle last : ℤ) (h : AreEnds first middle last) where
  three_all : (P : ℤ × ℤ → Type 0) → P (first, pos 1) → P (pos 4, middle) → P (pos 9, last) → All P (three_ranges first middle last)
  three_all P a b c = All-cons P (first, pos 1) ((pos 4, middle) ∷ (pos 9, last) ∷ []) a (All-cons P (pos 4, middle) ((pos 9, last) ∷ []) b (All-cons P (pos 9, last) [] c (All-nil P)))

  three_apart : AllPairs (λ r s. (r.1 +ℤ pos 1) <ℤ s.0) (three_ranges first middle last)
  three_apart zero zero d k l = absurd (omega arith)
  three_apart zero (suc zero) d k l = omega (arith, ints)
  three_apart zero (suc (suc zero)) d k l = omega (arith, ints)
  three_apart (suc zero) zero d k l = absurd (omega arith)
  three_apart (suc zero) (suc zero) d k l = absurd (omega arith)
  three_apart (suc zero) (suc (suc zero)) d k l = let a = h.apart in omega (arith, ints)
  three_apart (suc (suc i)) zero d k l = absurd (omega arith)
  three_apart (suc (suc i)) (suc zero) d k l = absurd (omega arith)
  three_apart (suc (suc i)) (suc (suc zero)) d k l = absurd (omega arith)
  three_apart i (suc (suc (suc j))) d k l = absurd (omega arith)

  three_set : IsSet (three_ranges first middle last)
  unfolding range_limit largest_number
  three_set =
      let a = h.middle_range in
      let b = h.apart in
      record {
        short = omega arith;
        firsts = three_all (λ r. IsNumber r.0) h.first_number (omega arith) (omega arith);
        lasts = three_all (λ r. IsNumber r.1) (omega arith) (omega (arith, ints)) h.last_number;
        ordered = three_all (λ r. r.0 ≤ℤ r.1) h.first_range h.middle_range h.last_range;
        apart = three_apart;
      }

  pub in_set_made : (l : Lit) (ranges : List (ℤ × ℤ)) → l.var ≡ 0 → ranges ≡ three_ranges first middle last → IsKernel 4 (InSet l 1 ranges)
  unfolding vars_of HasNumbers
  in_set_made l ranges z e = subst (λ (rs : List (ℤ × ℤ)). IsKernel 4 (InSet l 1 rs)) (sym e) (record {
    variables = subst (λ (v : ℕ). AreVariables 4 (v ∷ 1 ∷ [])) (sym z) (below_four (0 ∷ 1 ∷ []) refl);
    numbers = three_set;
  })

-- ---- global constraints

few_places : (n : ℕ) → n ≤ 9 → n ≤ place_limit
unfolding place_limit
few_places n h = omega arith

pub different_made : (xs : List ℕ) → xs ≡ 0 ∷ 1 ∷ 2 ∷ [] → IsKernel 4 (AllDiff xs)
unfolding vars_of HasNumbers
different_made xs e = subst (λ (ys : List ℕ). IsKernel 4 (AllDiff ys)) (sym e) (record { variables = below_four (0 ∷ 1 ∷ 2 ∷ []) refl; numbers = few_places 3 (omega arith) })

pub twice_made : (xs : List ℕ) → xs ≡ 0 ∷ 0 ∷ 1 ∷ [] → IsKernel 4 (AllDiff xs)
unfolding vars_of HasNumbers
twice_made xs e = subst (λ (ys : List ℕ). IsKernel 4 (AllDiff ys)) (sym e) (record { variables = below_four (0 ∷ 0 ∷ 1 ∷ []) refl; numbers = few_places 3 (omega arith) })

pub none_different_made : (xs : List ℕ) → xs ≡ [] → IsKernel 4 (AllDiff xs)
unfolding vars_of HasNumbers
none_different_made xs e = subst (λ (ys : List ℕ). IsKernel 4 (AllDiff ys)) (sym e) (record { variables = below_four [] refl; numbers = few_places 0 (omega arith) })

small_amount : (n : ℕ) → n ≤ 9 → IsAmount (pos n)
unfolding largest_number
small_amount n h = record { number = omega (arith, ints); positive = omega (arith, ints) }

two_amounts : (m n : ℕ) → m ≤ 9 → n ≤ 9 → All IsAmount (pos m ∷ pos n ∷ [])
two_amounts m n h k = All-cons IsAmount (pos m) (pos n ∷ []) (small_amount m h) (All-cons IsAmount (pos n) [] (small_amount n k) (All-nil IsAmount))

two_tasks_are : AreTasks (0 ∷ 1 ∷ []) (pos 3 ∷ pos 2 ∷ []) (pos 2 ∷ pos 2 ∷ []) (pos 3)
two_tasks_are = record {
  a_duration_each = refl;
  a_usage_each = refl;
  short = few_places 2 (omega arith);
  durations = two_amounts 3 2 (omega arith) (omega arith);
  usages = two_amounts 2 2 (omega arith) (omega arith);
  limit = small_amount 3 (omega arith);
}

pub two_tasks_made : (s : List ℕ) (d r : List ℤ) → s ≡ 0 ∷ 1 ∷ [] → d ≡ pos 3 ∷ pos 2 ∷ [] → r ≡ pos 2 ∷ pos 2 ∷ [] → IsKernel 4 (Cumulative s d r (pos 3))
unfolding vars_of HasNumbers
two_tasks_made s d r e f g =
    let made : IsKernel 4 (Cumulative (0 ∷ 1 ∷ []) (pos 3 ∷ pos 2 ∷ []) (pos 2 ∷ pos 2 ∷ []) (pos 3)) = record { variables = below_four (0 ∷ 1 ∷ []) refl; numbers = two_tasks_are } in
    subst (λ (x : List ℕ). IsKernel 4 (Cumulative x d r (pos 3))) (sym e) (subst (λ (y : List ℤ). IsKernel 4 (Cumulative (0 ∷ 1 ∷ []) y r (pos 3))) (sym f) (subst (λ (z : List ℤ). IsKernel 4 (Cumulative (0 ∷ 1 ∷ []) (pos 3 ∷ pos 2 ∷ []) z (pos 3))) (sym g) made))
