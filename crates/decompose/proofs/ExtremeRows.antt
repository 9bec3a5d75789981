-- The rows of greatest and least values.
use Rattle.std.proofs.Common.{◌≡◌, ◌↔◌, ℕ, zero, suc, ℤ, ◌≤ℤ◌, ◌<◌, ◌≤◌, Bool, true, false, cond, List, [], ◌∷◌, length, map, get_or, refl, sym, ap, subst, ◌∙◌, arith}
use Rattle.std.specs.List.{All, Any, Contains}
use Rattle.std.specs.Int.{int_max as greater_of, int_min as less_of}
use Rattle.std.specs.Int.RustNames.{int_lt}
use Rattle.std.proofs.lemmas.Int.{ints, clamps}
use Rattle.std.proofs.lemmas.List.{length-map, get_or-map, get_or_default}
use Rattle.std.proofs.lemmas.List.Elements.{All-head, All-tail, All-map}
use Rattle.guarded_tell.specs.declared.kernel.Kernel.{Kernel}
use Rattle.extreme_tells.specs.Extremes.{member_limit}
use Rattle.extreme_tells.specs.Maximum.{IsGreatestOf}
use Rattle.extreme_tells.specs.Minimum.{IsLeastOf}
use Rattle.guarded_tell.specs.Words.{value_of}
use Rattle.guarded_tell.specs.Kernels.{vars_of, HasNumbers, Holds as KernelHolds}
use Rattle.constraint_model.specs.declared.model.Term.{Term}
use Rattle.constraint_model.specs.declared.model.VarDecl.{VarDecl}
use Rattle.constraint_model.specs.declared.meanings.Array.{Array}
use Rattle.constraint_model.specs.declared.meanings.Scalar.{Scalar}
use Rattle.constraint_model.specs.declared.meanings.Meaning.{Meaning}
use Rattle.constraint_model.specs.declared.table.Letter.{Letter}
use Rattle.constraint_model.specs.declared.table.ConstraintName.{ConstraintName}
use Rattle.constraint_model.specs.Limits.{most_entries}
use Rattle.constraint_model.specs.Fits.{kernels_of}
use Rattle.constraint_model.specs.Relations.{value, HoldsOn, IsMaximum, IsMinimum}
use Rattle.decompose.specs.Program.{with_constants}
use Rattle.decompose.specs.Kernels.{variable_of, variables_of, row_of}
use Rattle.decompose.specs.Places.{numbering_of}
use Rattle.decompose.proofs.Means.{HasVariable, MeansOne, RowMeans, size_of}
use Rattle.decompose.proofs.Served.{Law, RowIs, terms_of, at_integer, at_row, at_two}
use Rattle.decompose.proofs.OneKernel.{alone, all_two, are_variables, variables_inside, one_more, two_have, iff_through, same_meaning, value_is, values_are, by_three}

-- ---- the relations, by the values

-- a variable has the value z where the values contain it
reached_is : (f : ℕ → ℤ) (z : ℤ) (xs : List ℕ) → Any (λ x. f x ≡ z) xs ↔ Contains (map f xs) z
reached_is f z xs = (λ h. (h.0, subst (λ n. h.0 < n) (sym (length-map xs f)) h.2, get_or-map f xs h.0 h.1 z h.2 ∙ ap f h.3 ∙ h.4), from)
  where
    from : Contains (map f xs) z → Any (λ x. f x ≡ z) xs
    from h =
        let inside : h.0 < length xs = subst (λ n. h.0 < n) (length-map xs f) h.1 in
        (h.0, get_or xs h.0 0, inside, get_or_default xs h.0 (get_or xs h.0 0) 0 inside, sym (get_or-map f xs h.0 0 z inside) ∙ h.2)

-- what is true of each variable's value is true of each value
each_is : (f : ℕ → ℤ) (P : ℤ → Type 0) (xs : List ℕ) → All (λ x. P (f x)) xs ↔ All P (map f xs)
each_is f P xs = (λ h. All-map P f xs h, λ h k d inside. subst P (get_or-map f xs k d (f d) inside) (h k (f d) (subst (λ n. k < n) (sym (length-map xs f)) inside)))

greatest_by_values : (numbers : List ℤ) (m : ℕ) (xs : List ℕ) → IsGreatestOf m xs numbers ↔ IsMaximum (value_of numbers m) (map (value_of numbers) xs)
greatest_by_values numbers m xs =
    let f = value_of numbers in
    let some = reached_is f (f m) xs in
    let each = each_is f (λ z. z ≤ℤ f m) xs in
    (λ h. (some.0 h.reached, each.0 h.none_greater), λ h. record { reached = some.1 h.0; none_greater = each.1 h.1 })

least_by_values : (numbers : List ℤ) (m : ℕ) (xs : List ℕ) → IsLeastOf m xs numbers ↔ IsMinimum (value_of numbers m) (map (value_of numbers) xs)
least_by_values numbers m xs =
    let f = value_of numbers in
    let some = reached_is f (f m) xs in
    let each = each_is f (λ z. f m ≤ℤ z) xs in
    (λ h. (some.0 h.reached, each.0 h.none_less), λ h. record { reached = some.1 h.0; none_less = each.1 h.1 })

-- a relation of equal values
both_same : (R : ℤ → List ℤ → Type 0) (x y : ℤ) (xs ys : List ℤ) → x ≡ y → xs ≡ ys → R x xs ↔ R y ys
both_same R x y xs ys e f = (λ h. subst (λ zs. R y zs) f (subst (λ z. R z xs) e h), λ h. subst (λ z. R z xs) (sym e) (subst (λ zs. R y zs) (sym f) h))

-- ---- two values

contains_two : (x y z : ℤ) (C : Type 0) → (x ≡ z → C) → (y ≡ z → C) → Contains (x ∷ y ∷ []) z → C
contains_two x y z C f g h = by h.0 h.1 h.2
  where
    by : (k : ℕ) → k < 2 → get_or (x ∷ y ∷ []) k z ≡ z → C
    by zero inside e = f e
    by (suc zero) inside e = g e
    by (suc (suc k)) inside e = absurd (omega arith)

two_max : (x y m : ℤ) → IsMaximum m (x ∷ y ∷ []) ↔ (greater_of x y ≡ m)
two_max x y m = (to, λ e. (reached e, bounds e))
  where
    to : IsMaximum m (x ∷ y ∷ []) → greater_of x y ≡ m
    to h =
        let hx : x ≤ℤ m = All-head (λ z. z ≤ℤ m) x (y ∷ []) h.1 in
        let hy : y ≤ℤ m = All-head (λ z. z ≤ℤ m) y [] (All-tail (λ z. z ≤ℤ m) x (y ∷ []) h.1) in
        contains_two x y m (greater_of x y ≡ m) (λ e. omega (arith, ints, clamps)) (λ e. omega (arith, ints, clamps)) h.0

    reached : greater_of x y ≡ m → Contains (x ∷ y ∷ []) m
    reached = by (int_lt y x)
      where
        by : (b : Bool) → cond b x y ≡ m → Contains (x ∷ y ∷ []) m
        by true e = (0, omega arith, e)
        by false e = (1, omega arith, e)

    bounds : greater_of x y ≡ m → All (λ z. z ≤ℤ m) (x ∷ y ∷ [])
    bounds e = all_two (λ z. z ≤ℤ m) x y (omega (arith, ints, clamps)) (omega (arith, ints, clamps))

two_min : (x y m : ℤ) → IsMinimum m (x ∷ y ∷ []) ↔ (less_of x y ≡ m)
two_min x y m = (to, λ e. (reached e, bounds e))
  where
    to : IsMinimum m (x ∷ y ∷ []) → less_of x y ≡ m
    to h =
        let hx : m ≤ℤ x = All-head (λ z. m ≤ℤ z) x (y ∷ []) h.1 in
        let hy : m ≤ℤ y = All-head (λ z. m ≤ℤ z) y [] (All-tail (λ z. m ≤ℤ z) x (y ∷ []) h.1) in
        contains_two x y m (less_of x y ≡ m) (λ e. omega (arith, ints, clamps)) (λ e. omega (arith, ints, clamps)) h.0

    reached : less_of x y ≡ m → Contains (x ∷ y ∷ []) m
    reached = by (int_lt y x)
      where
        by : (b : Bool) → cond b y x ≡ m → Contains (x ∷ y ∷ []) m
        by true e = (1, omega arith, e)
        by false e = (0, omega arith, e)

    bounds : less_of x y ≡ m → All (λ z. m ≤ℤ z) (x ∷ y ∷ [])
    bounds e = all_two (λ z. m ≤ℤ z) x y (omega (arith, ints, clamps)) (omega (arith, ints, clamps))

-- ---- the rows

pub few_members : (n : ℕ) → n ≤ most_entries → n ≤ member_limit
unfolding member_limit
few_members n h = omega arith

two_members : 2 ≤ member_limit
unfolding member_limit
two_members = omega arith

module _ (vars : List VarDecl) (constants : List ℤ) where
  greatest_is : (m : Term) (xs : List Term) → HasVariable vars constants m → All (HasVariable vars constants) xs → length (variables_of (numbering_of vars constants) xs) ≤ member_limit
      → MeansOne vars constants (λ a. IsMaximum (value a m) (map (value a) xs)) (Kernel.Max (variable_of (numbering_of vars constants) m) (variables_of (numbering_of vars constants) xs))
  unfolding vars_of HasNumbers KernelHolds
  greatest_is m xs hm hs few = record {
    can_run = record {
      variables = are_variables (size_of vars constants) (variables_of (numbering_of vars constants) (m ∷ xs)) (variables_inside vars constants (m ∷ xs) (one_more vars constants m xs hm hs));
      numbers = few;
    };
    meaning = λ a w.
        iff_through (greatest_by_values (with_constants constants a) (variable_of (numbering_of vars constants) m) (variables_of (numbering_of vars constants) xs))
        (both_same IsMaximum _ (value a m) _ (map (value a) xs) (value_is vars constants a w m hm) (values_are vars constants a w xs hs));
  }

  least_is : (m : Term) (xs : List Term) → HasVariable vars constants m → All (HasVariable vars constants) xs → length (variables_of (numbering_of vars constants) xs) ≤ member_limit
      → MeansOne vars constants (λ a. IsMinimum (value a m) (map (value a) xs)) (Kernel.Min (variable_of (numbering_of vars constants) m) (variables_of (numbering_of vars constants) xs))
  unfolding vars_of HasNumbers KernelHolds
  least_is m xs hm hs few = record {
    can_run = record {
      variables = are_variables (size_of vars constants) (variables_of (numbering_of vars constants) (m ∷ xs)) (variables_inside vars constants (m ∷ xs) (one_more vars constants m xs hm hs));
      numbers = few;
    };
    meaning = λ a w.
        iff_through (least_by_values (with_constants constants a) (variable_of (numbering_of vars constants) m) (variables_of (numbering_of vars constants) xs))
        (both_same IsMinimum _ (value a m) _ (map (value a) xs) (value_is vars constants a w m hm) (values_are vars constants a w xs hs));
  }

  -- an array of a model isn't too long
  pub entries_few : (es : List Scalar) → length es ≤ most_entries → length (variables_of (numbering_of vars constants) (terms_of es)) ≤ member_limit
  entries_few es h =
      let e = length-map (terms_of es) (variable_of (numbering_of vars constants)) in
      let f = length-map es (λ s. s.term) in
      few_members (length (variables_of (numbering_of vars constants) (terms_of es))) (omega arith)

  pub int_max : Law vars constants ConstraintName.IntMax (Letter.Integer ∷ Letter.Integer ∷ Letter.Integer ∷ [])
  unfolding row_of kernels_of HoldsOn
  int_max =
      by_three vars constants ConstraintName.IntMax false false false
      (λ s t u hs ht hu. alone vars constants refl
      (same_meaning vars constants (λ a. IsMaximum (value a u.term) (map (value a) (s.term ∷ t.term ∷ []))) (λ a. greater_of (value a s.term) (value a t.term) ≡ value a u.term) _
      (greatest_is u.term (s.term ∷ t.term ∷ []) hu.has (two_have vars constants s.term t.term hs.has ht.has) two_members)
      (λ a w. two_max (value a s.term) (value a t.term) (value a u.term))))

  pub int_min : Law vars constants ConstraintName.IntMin (Letter.Integer ∷ Letter.Integer ∷ Letter.Integer ∷ [])
  unfolding row_of kernels_of HoldsOn
  int_min =
      by_three vars constants ConstraintName.IntMin false false false
      (λ s t u hs ht hu. alone vars constants refl
      (same_meaning vars constants (λ a. IsMinimum (value a u.term) (map (value a) (s.term ∷ t.term ∷ []))) (λ a. less_of (value a s.term) (value a t.term) ≡ value a u.term) _
      (least_is u.term (s.term ∷ t.term ∷ []) hu.has (two_have vars constants s.term t.term hs.has ht.has) two_members)
      (λ a w. two_min (value a s.term) (value a t.term) (value a u.term))))

  -- a number, and an array of integers
  number_and_row : (name : ConstraintName)
      → ((s : Scalar) (xs : Array) → HasVariable vars constants s.term → RowIs vars constants xs → RowMeans vars constants name (Meaning.One s ∷ Meaning.Row xs ∷ []))
      → Law vars constants name (Letter.Integer ∷ Letter.Integers ∷ [])
  number_and_row name f ms served lengths =
      at_two vars constants Letter.Integer Letter.Integers (RowMeans vars constants name)
      (λ m n hm hn.
      at_integer vars constants (λ i. RowMeans vars constants name (i ∷ n ∷ []))
      (λ s is. at_row vars constants (λ j. RowMeans vars constants name (Meaning.One s ∷ j ∷ [])) (λ xs row. f s xs is.has row) Letter.Integers tt n hn)
      m hm)
      ms served

  pub array_int_maximum : Law vars constants ConstraintName.ArrayIntMaximum (Letter.Integer ∷ Letter.Integers ∷ [])
  unfolding row_of kernels_of HoldsOn
  array_int_maximum =
      number_and_row ConstraintName.ArrayIntMaximum
      (λ s xs has row. alone vars constants refl
      (greatest_is s.term (terms_of xs.entries) has row.has (entries_few xs.entries row.short)))

  pub array_int_minimum : Law vars constants ConstraintName.ArrayIntMinimum (Letter.Integer ∷ Letter.Integers ∷ [])
  unfolding row_of kernels_of HoldsOn
  array_int_minimum =
      number_and_row ConstraintName.ArrayIntMinimum
      (λ s xs has row. alone vars constants refl
      (least_is s.term (terms_of xs.entries) has row.has (entries_few xs.entries row.short)))
