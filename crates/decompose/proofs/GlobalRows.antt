-- The rows of numbers that differ and of resources.
use Rattle.std.proofs.Common.{◌≡◌, ◌↔◌, ℕ, ℤ, pos, ◌+ℤ◌, ◌≤ℤ◌, ◌<◌, ◌≤◌, true, false, cond, ◌&&◌, List, [], ◌∷◌, length, map, refl, sym, ap, subst, ◌∙◌, arith, nat_eq, nat_lt}
use Rattle.std.specs.Prelude.{◌≢◌, int_le, int_lt}
use Rattle.std.specs.List.{All, AllPairs}
use Rattle.std.proofs.lemmas.Bool.{and_parts, eqb-true, ltb-false}
use Rattle.std.proofs.lemmas.List.{length-map, get_or-map}
use Rattle.std.proofs.lemmas.List.Elements.{All-nil, All-cons, All-head, All-tail, All-weaker}
use Rattle.global_tells.specs.Ranges.{place_limit}
use Rattle.global_tells.specs.Cumulative.{tasks_of, sum_of, used_at as used_in, IsAmount, AreTasks}
use Rattle.guarded_tell.specs.declared.kernel.Kernel.{Kernel}
use Rattle.guarded_tell.specs.Words.{value_of}
use Rattle.guarded_tell.specs.Kernels.{vars_of, HasNumbers, Holds as KernelHolds}
use Rattle.constraint_model.specs.declared.model.Term.{Term}
use Rattle.constraint_model.specs.declared.model.VarDecl.{VarDecl}
use Rattle.constraint_model.specs.declared.meanings.Array.{Array}
use Rattle.constraint_model.specs.declared.meanings.Scalar.{Scalar}
use Rattle.constraint_model.specs.declared.meanings.Meaning.{Meaning}
use Rattle.constraint_model.specs.declared.table.Letter.{Letter}
use Rattle.constraint_model.specs.declared.table.ConstraintName.{ConstraintName}
use Rattle.constraint_model.specs.Limits.{most_places}
use Rattle.constraint_model.specs.Fits.{kernels_of, has_equal_lengths, has_long_row, constraint_on}
use Rattle.constraint_model.specs.Relations.{value, HoldsOn, AreAllDifferent, IsCumulative, used_at}
use Rattle.decompose.specs.Program.{with_constants}
use Rattle.decompose.specs.Kernels.{variable_of, variables_of, number_of, row_of}
use Rattle.decompose.specs.Places.{numbering_of}
use Rattle.decompose.proofs.Means.{HasVariable, MeansOne, RowMeans, size_of}
use Rattle.decompose.proofs.Served.{IsConstant, IsWhole, RowIs, ShortLaw, terms_of, at_amount, at_amounts, at_row, at_four}
use Rattle.decompose.proofs.SumLaws.{constant_value, constant_values}
use Rattle.decompose.proofs.OneKernel.{alone, are_variables, iff_through, iff_same, profile_number, values_are, variables_inside}

-- ---- different numbers

-- the variables have different values exactly where the values differ
apart_is : (f : ℕ → ℤ) (xs : List ℕ) → AllPairs (λ x y. f x ≢ f y) xs ↔ AllPairs (λ y z. y ≢ z) (map f xs)
apart_is f xs = (to, from)
  where
    same_length : length (map f xs) ≡ length xs
    same_length = length-map xs f

    to : AllPairs (λ x y. f x ≢ f y) xs → AllPairs (λ y z. y ≢ z) (map f xs)
    to h = λ i j d less inside e.
        let in_j : j < length xs = subst (λ n. j < n) same_length inside in
        let in_i : i < length xs = omega (arith, less, in_j) in
        h i j 0 less in_j (sym (get_or-map f xs i 0 d in_i) ∙ e ∙ get_or-map f xs j 0 d in_j)

    from : AllPairs (λ y z. y ≢ z) (map f xs) → AllPairs (λ x y. f x ≢ f y) xs
    from h = λ i j d less inside e.
        let in_i : i < length xs = omega (arith, less, inside) in
        h i j (f d) less (subst (λ n. j < n) (sym same_length) inside) (get_or-map f xs i d (f d) in_i ∙ e ∙ sym (get_or-map f xs j d (f d) inside))

-- ---- tasks

-- what the tasks of three lists use, by the values of their starts
used_is : (numbers : List ℤ) (xs : List ℕ) (ds us : List ℤ) (t : ℤ) → used_in (tasks_of xs ds us) numbers t ≡ used_at (map (value_of numbers) xs) ds us t
unfolding tasks_of sum_of
used_is numbers [] ds us t = refl
used_is numbers (x ∷ xs) [] us t = refl
used_is numbers (x ∷ xs) (d ∷ ds) [] t = refl
used_is numbers (x ∷ xs) (d ∷ ds) (u ∷ us) t =
    let s : ℤ = value_of numbers x in
    ap (λ z. cond (int_le s t && int_lt t (s +ℤ d)) u (pos 0) +ℤ z) (used_is numbers xs ds us t)

-- a resource by equal values
same_cumulative : (ss ss' ds ds' us us' : List ℤ) (b b' : ℤ) → ss ≡ ss' → ds ≡ ds' → us ≡ us' → b ≡ b' → IsCumulative ss ds us b ↔ IsCumulative ss' ds' us' b'
same_cumulative ss ss' ds ds' us us' b b' e f g h =
    iff_through (iff_same (λ xs. IsCumulative xs ds us b) ss ss' e)
    (iff_through (iff_same (λ xs. IsCumulative ss' xs us b) ds ds' f)
    (iff_through (iff_same (λ xs. IsCumulative ss' ds' xs b) us us' g) (iff_same (λ z. IsCumulative ss' ds' us' z) b b' h)))

-- numbers that aren't negative are constants, and amounts
whole_constant : (t : Term) → IsWhole t → IsConstant t
whole_constant (Term.Number n) h = h.0
whole_constant (Term.Var v) h = h

whole_amount : (t : Term) → IsWhole t → IsAmount (number_of t)
whole_amount (Term.Number n) h = record { number = profile_number n h.0; positive = h.1 }
whole_amount (Term.Var v) h = absurd h

whole_constants : (ts : List Term) → All IsWhole ts → All IsConstant ts
whole_constants ts h = All-weaker IsWhole IsConstant whole_constant ts h

whole_amounts : (ts : List Term) → All IsWhole ts → All IsAmount (map number_of ts)
whole_amounts [] h = All-nil IsAmount
whole_amounts (t ∷ ts) h = All-cons IsAmount (number_of t) (map number_of ts) (whole_amount t (All-head IsWhole t ts h)) (whole_amounts ts (All-tail IsWhole t ts h))

few_places : (n : ℕ) → nat_lt most_places n ≡ false → n ≤ place_limit
unfolding place_limit
few_places n e = ltb-false most_places n e

-- ---- the rows

module _ (vars : List VarDecl) (constants : List ℤ) where
  different_is : (xs : List Term) → All (HasVariable vars constants) xs → length (variables_of (numbering_of vars constants) xs) ≤ place_limit
      → MeansOne vars constants (λ a. AreAllDifferent (map (value a) xs)) (Kernel.AllDiff (variables_of (numbering_of vars constants) xs))
  unfolding vars_of HasNumbers KernelHolds
  different_is xs has few = record {
    can_run = record {
      variables = are_variables (size_of vars constants) (variables_of (numbering_of vars constants) xs) (variables_inside vars constants xs has);
      numbers = few;
    };
    meaning = λ a w.
        iff_through (apart_is (value_of (with_constants constants a)) (variables_of (numbering_of vars constants) xs))
        (iff_same AreAllDifferent _ (map (value a) xs) (values_are vars constants a w xs has));
  }

  -- tasks: as many durations and usages as starts, and not too many
  record AreShortTasks (xs ds us : List Term) (b : Term) : Type 0 where
    has : All (HasVariable vars constants) xs
    durations : All IsWhole ds
    usages : All IsWhole us
    limit : IsWhole b
    a_duration_each : length ds ≡ length xs
    a_usage_each : length us ≡ length xs
    few : length xs ≤ place_limit

  can_run : (xs ds us : List Term) (b : Term) → AreShortTasks xs ds us b → AreTasks (variables_of (numbering_of vars constants) xs) (map number_of ds) (map number_of us) (number_of b)
  can_run xs ds us b h =
      let lx = length-map xs (variable_of (numbering_of vars constants)) in
      let ld = length-map ds number_of in
      let lu = length-map us number_of in
      let same_ds = h.a_duration_each in
      let same_us = h.a_usage_each in
      let few = h.few in
      record {
        a_duration_each = omega arith;
        a_usage_each = omega arith;
        short = omega arith;
        durations = whole_amounts ds h.durations;
        usages = whole_amounts us h.usages;
        limit = whole_amount b h.limit;
      }

  resource_is : (xs ds us : List Term) (b : Term) → AreShortTasks xs ds us b
      → MeansOne vars constants (λ a. IsCumulative (map (value a) xs) (map (value a) ds) (map (value a) us) (value a b))
      (Kernel.Cumulative (variables_of (numbering_of vars constants) xs) (map number_of ds) (map number_of us) (number_of b))
  unfolding vars_of HasNumbers KernelHolds
  resource_is xs ds us b h = record {
    can_run = record {
      variables = are_variables (size_of vars constants) (variables_of (numbering_of vars constants) xs) (variables_inside vars constants xs h.has);
      numbers = can_run xs ds us b h;
    };
    meaning = λ a w.
        let numbers : List ℤ = with_constants constants a in
        let vs : List ℕ = variables_of (numbering_of vars constants) xs in
        let used = used_is numbers vs (map number_of ds) (map number_of us) in
        iff_through
        ((λ k t. subst (λ z. z ≤ℤ number_of b) (used t) (k t), λ k t. subst (λ z. z ≤ℤ number_of b) (sym (used t)) (k t)))
        (same_cumulative (map (value_of numbers) vs) (map (value a) xs) (map number_of ds) (map (value a) ds) (map number_of us) (map (value a) us) (number_of b) (value a b)
        (values_are vars constants a w xs h.has) (sym (constant_values a ds (whole_constants ds h.durations))) (sym (constant_values a us (whole_constants us h.usages))) (sym (constant_value a b (whole_constant b h.limit))));
  }

  different_row : (xs : Array) → RowIs vars constants xs → nat_lt most_places (length (terms_of xs.entries)) ≡ false → RowMeans vars constants ConstraintName.PccpAllDifferent (Meaning.Row xs ∷ [])
  unfolding row_of kernels_of HoldsOn
  different_row xs row e =
      let l = length-map (terms_of xs.entries) (variable_of (numbering_of vars constants)) in
      let few = few_places (length (terms_of xs.entries)) e in
      alone vars constants refl (different_is (terms_of xs.entries) row.has (omega arith))

  pub pccp_all_different : ShortLaw vars constants ConstraintName.PccpAllDifferent (Letter.Integers ∷ [])
  pccp_all_different [] h e short = absurd h
  pccp_all_different (m ∷ []) h e short =
      at_row vars constants (λ o. has_long_row (constraint_on ConstraintName.PccpAllDifferent (o ∷ [])) ≡ false → RowMeans vars constants ConstraintName.PccpAllDifferent (o ∷ []))
      (λ xs row s. different_row xs row s) Letter.Integers tt m h.0 short
  pccp_all_different (m ∷ n ∷ ms) h e short = absurd h.1

  resource_row : (xs ds us : Array) (b : Scalar) → RowIs vars constants xs → All IsWhole (terms_of ds.entries) → All IsWhole (terms_of us.entries) → IsWhole b.term
      → (nat_eq (length xs.entries) (length ds.entries) && nat_eq (length xs.entries) (length us.entries)) ≡ true → nat_lt most_places (length (terms_of xs.entries)) ≡ false
      → RowMeans vars constants ConstraintName.PccpCumulative (Meaning.Row xs ∷ Meaning.Row ds ∷ Meaning.Row us ∷ Meaning.One b ∷ [])
  unfolding row_of kernels_of HoldsOn
  resource_row xs ds us b row whole_ds whole_us whole_b e s =
      let parts = and_parts (nat_eq (length xs.entries) (length ds.entries)) (nat_eq (length xs.entries) (length us.entries)) e in
      let same_ds : length xs.entries ≡ length ds.entries = eqb-true (length xs.entries) (length ds.entries) parts.0 in
      let same_us : length xs.entries ≡ length us.entries = eqb-true (length xs.entries) (length us.entries) parts.1 in
      let lx = length-map {B = Term} xs.entries (λ t. t.term) in
      let ld = length-map {B = Term} ds.entries (λ t. t.term) in
      let lu = length-map {B = Term} us.entries (λ t. t.term) in
      alone vars constants refl (resource_is (terms_of xs.entries) (terms_of ds.entries) (terms_of us.entries) b.term (record {
        has = row.has;
        durations = whole_ds;
        usages = whole_us;
        limit = whole_b;
        a_duration_each = omega arith;
        a_usage_each = omega arith;
        few = few_places (length (terms_of xs.entries)) s;
      }))

  pub pccp_cumulative : ShortLaw vars constants ConstraintName.PccpCumulative (Letter.Integers ∷ Letter.Amounts ∷ Letter.Amounts ∷ Letter.Amount ∷ [])
  pccp_cumulative ms h e short =
      let name : ConstraintName = ConstraintName.PccpCumulative in
      let letters : List Letter = Letter.Integers ∷ Letter.Amounts ∷ Letter.Amounts ∷ Letter.Amount ∷ [] in
      let P : List Meaning → Type 0 = λ os. has_equal_lengths letters os ≡ true → has_long_row (constraint_on name os) ≡ false → RowMeans vars constants name os in
      at_four vars constants Letter.Integers Letter.Amounts Letter.Amounts Letter.Amount P
      (λ m n o p hm hn ho hp.
      at_row vars constants (λ q. P (q ∷ n ∷ o ∷ p ∷ []))
      (λ xs row.
      at_amounts vars constants (λ q. P (Meaning.Row xs ∷ q ∷ o ∷ p ∷ []))
      (λ ds whole_ds.
      at_amounts vars constants (λ q. P (Meaning.Row xs ∷ Meaning.Row ds ∷ q ∷ p ∷ []))
      (λ us whole_us.
      at_amount vars constants (λ q. P (Meaning.Row xs ∷ Meaning.Row ds ∷ Meaning.Row us ∷ q ∷ []))
      (λ b whole_b f s. resource_row xs ds us b row whole_ds whole_us whole_b f s)
      p hp)
      o ho)
      n hn)
      Letter.Integers tt m hm)
      ms h e short
