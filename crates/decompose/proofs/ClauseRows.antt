-- The rows that are clauses: conjunctions, disjunctions and clauses, with and without a boolean.
use Rattle.std.proofs.Common.{◌≡◌, ◌↔◌, ◌⊎◌, ℕ, suc, ℤ, pos, ◌+◌, ◌<◌, ◌≤◌, Bool, true, false, not, ◌&&◌, ◌||◌, List, [], ◌∷◌, length, map, refl, sym, ap, ◌∙◌, inl, inr, arith, length-append, lit≤}
use Rattle.std.specs.List.{All, Any, list_any, list_all}
use Rattle.std.specs.Int.RustNames.{int_le}
use Rattle.std.proofs.lemmas.Int.{ints}
use Rattle.std.proofs.lemmas.Bool.{or_left, or_right, false_from_ne_true}
use Rattle.std.proofs.lemmas.List.{length-map}
use Rattle.std.proofs.lemmas.List.Folds.{Any-from_list_any, list_any-from_Any, list_any-append}
use Rattle.std.proofs.lemmas.List.Sums.{AllPass-from_list_all, list_all-from_AllPass}
use Rattle.std.proofs.lemmas.List.Elements.{All-nil, All-cons, All-head, All-tail, All-append, All-map, All-weaker}
use Rattle.guarded_tell.specs.Words.{Lit}
use Rattle.guarded_tell.specs.declared.kernel.Kernel.{Kernel}
use Rattle.guarded_tell.specs.Words.{value_of, literal_true, sign_true}
use Rattle.clause_tells.specs.Clause.{clause_vars, literal_limit}
use Rattle.guarded_tell.specs.Kernels.{vars_of, HasNumbers, IsKernel, Holds as KernelHolds}
use Rattle.constraint_model.specs.declared.model.Term.{Term}
use Rattle.constraint_model.specs.declared.model.VarDecl.{VarDecl}
use Rattle.constraint_model.specs.declared.meanings.Array.{Array}
use Rattle.constraint_model.specs.declared.meanings.Scalar.{Scalar}
use Rattle.constraint_model.specs.declared.meanings.Meaning.{Meaning}
use Rattle.constraint_model.specs.declared.table.ConstraintName.{ConstraintName}
use Rattle.constraint_model.specs.declared.table.Letter.{Letter}
use Rattle.constraint_model.specs.Limits.{most_entries}
use Rattle.constraint_model.specs.Fits.{kernels_of}
use Rattle.constraint_model.specs.Relations.{value, HoldsOn, IsWithin, IsTrueNumber, IsConjunction, IsDisjunction, IsClause}
use Rattle.decompose.specs.Program.{with_constants}
use Rattle.decompose.specs.Kernels.{row_of, variable_of, literal_of, opposite_of, negated, some_of, conjunction, disjunction, clause_literals}
use Rattle.decompose.specs.Places.{numbering_of}
use Rattle.decompose.proofs.Means.{size_of, HasVariable, MeansOne, RowMeans}
use Rattle.decompose.proofs.ConstantLaws.{variable_inside}
use Rattle.decompose.proofs.OneKernel.{iff_through, ends_same, all_two, all_parts, positive_true, are_variables, two_have, value_is, alone, by_three}
use Rattle.decompose.proofs.Served.{OneIs, RowIs, terms_of, at_boolean, at_row, at_two, at_three, Law}

-- ---- truths

-- where two truths are true alike they are the same
same_truth : (b c : Bool) → (b ≡ true → c ≡ true) → (c ≡ true → b ≡ true) → b ≡ c
same_truth true c f g = sym (f refl)
same_truth false c f g = sym (false_from_ne_true c (λ e. let x : false ≡ true = g e in cc))

not_true : (b : Bool) → not b ≡ true → b ≡ true → ⊥
not_true true e f = cc
not_true false e f = cc

truth_or : {P : Type 0} (b c : Bool) → (b || c) ≡ true → (b ≡ true → P) → (c ≡ true → P) → P
truth_or true c e f g = f refl
truth_or false c e f g = g e

-- two truths are the same exactly where what they say is equivalent
truths_say : {P Q : Type 0} (b c : Bool) → (b ≡ true ↔ P) → (c ≡ true ↔ Q) → b ≡ c ↔ (P ↔ Q)
truths_say b c f g = (
  λ e. (λ p. g.0 (sym e ∙ f.1 p), λ q. f.0 (e ∙ g.1 q)),
  λ h. same_truth b c (λ e. g.1 (h.0 (f.0 e))) (λ e. f.1 (h.1 (g.0 e))),
)

not_same : (b c : Bool) → not b ≡ not c ↔ b ≡ c
not_same true true = (λ e. refl, λ e. refl)
not_same false false = (λ e. refl, λ e. refl)
not_same true false = (λ e. cc, λ e. cc)
not_same false true = (λ e. cc, λ e. cc)

-- ---- lists of truths

any_same : {X : Type 0} (P Q : X → Type 0) (xs : List X) → ((x : X) → P x → Q x) → Any P xs → Any Q xs
any_same P Q xs f (k, x, inside, at, p) = (k, x, inside, at, f x p)

some_iff : {X : Type 0} (p : X → Bool) (P : X → Type 0) (xs : List X) → ((x : X) → p x ≡ true ↔ P x) → list_any p xs ≡ true ↔ Any P xs
some_iff p P xs f = (
  λ e. any_same (λ x. p x ≡ true) P xs (λ x. (f x).0) (Any-from_list_any p xs e),
  λ h. list_any-from_Any p xs (any_same P (λ x. p x ≡ true) xs (λ x. (f x).1) h),
)

each_iff : {X : Type 0} (p : X → Bool) (P : X → Type 0) (xs : List X) → ((x : X) → p x ≡ true ↔ P x) → list_all p xs ≡ true ↔ All P xs
each_iff p P xs f = (
  λ e k d inside. (f _).0 (AllPass-from_list_all p xs e k d inside),
  λ h. list_all-from_AllPass p xs (λ k d inside. (f _).1 (h k d inside)),
)

some_not : {X : Type 0} (p : X → Bool) (xs : List X) → list_any (λ x. not (p x)) xs ≡ not (list_all p xs)
some_not p [] = refl
some_not p (x ∷ xs) = by (p x) (some_not p xs)
  where
    by : (b : Bool) → list_any (λ y. not (p y)) xs ≡ not (list_all p xs) → (not b || list_any (λ y. not (p y)) xs) ≡ not (b && list_all p xs)
    by true e = e
    by false e = refl

-- ---- literals under numbers

-- the opposite literal is true exactly where the literal isn't
one_side : (z : ℤ) (b c : Bool) → int_le z (pos 0) ≡ b → int_le (pos 1) z ≡ c → b ≡ not c
one_side z true true e f = absurd (omega (arith, ints))
one_side z true false e f = refl
one_side z false true e f = refl
one_side z false false e f = absurd (omega (arith, ints))

other_side : (b c : Bool) → b ≡ not c → c ≡ not b
other_side true true e = cc
other_side true false e = refl
other_side false true e = refl
other_side false false e = cc

opposite_sign : (s : Bool) (z : ℤ) → sign_true (not s) z ≡ not (sign_true s z)
opposite_sign true z = one_side z (int_le z (pos 0)) (int_le (pos 1) z) refl refl
opposite_sign false z = other_side (int_le z (pos 0)) (int_le (pos 1) z) (one_side z (int_le z (pos 0)) (int_le (pos 1) z) refl refl)

abbrev is_true : ℤ → Bool
is_true z = int_le (pos 1) z

is_false_says : (z : ℤ) → not (is_true z) ≡ true ↔ (IsTrueNumber z → ⊥)
is_false_says z = (
  λ h t. not_true (is_true z) h ((positive_true z).1 t),
  λ n. ap not (false_from_ne_true (is_true z) (λ e. n ((positive_true z).0 e))),
)

module _ (numbers : List ℤ) where
  abbrev holds_here : Lit → Bool
  holds_here l = literal_true l (value_of numbers l.var)

  abbrev Here : Kernel → Type 0
  Here k = KernelHolds k numbers

  negated_is : (l : Lit) → holds_here (negated l) ≡ not (holds_here l)
  negated_is l = opposite_sign l.positive (value_of numbers l.var)

  -- a clause says that some literal is true
  clause_says : (lits : List Lit) → Here (Kernel.Clause lits) ↔ list_any holds_here lits ≡ true
  unfolding KernelHolds
  clause_says lits = (λ h. list_any-from_Any holds_here lits h, λ e. Any-from_list_any holds_here lits e)

  -- each of the others implies the literal
  implied : (l k : Lit) → Here (Kernel.Clause (l ∷ negated k ∷ [])) ↔ (holds_here k ≡ true → holds_here l ≡ true)
  implied l k = iff_through (clause_says (l ∷ negated k ∷ [])) (by (holds_here l) (holds_here k) (holds_here (negated k)) (negated_is k))
    where
      by : (b c d : Bool) → d ≡ not c → (b || (d || false)) ≡ true ↔ (c ≡ true → b ≡ true)
      by true c d e = (λ h f. refl, λ h. refl)
      by false true true e = cc
      by false true false e = (λ h f. h, λ h. h refl)
      by false false true e = (λ h f. cc, λ h. refl)
      by false false false e = cc

  abbrev implication : Lit → Lit → Kernel
  implication l k = Kernel.Clause (l ∷ negated k ∷ [])

  all_imply : (l : Lit) (others : List Lit) → All Here (map (implication l) others) ↔ (list_any holds_here others ≡ true → holds_here l ≡ true)
  all_imply l [] = (λ h e. cc, λ h. All-nil Here)
  all_imply l (k ∷ ks) =
      let one = implied l k in
      let rest = all_imply l ks in (
        λ h e. truth_or (holds_here k) (list_any holds_here ks) e (one.0 (All-head Here (implication l k) (map (implication l) ks) h)) (rest.0 (All-tail Here (implication l k) (map (implication l) ks) h)),
        λ f. All-cons Here (implication l k) (map (implication l) ks) (one.1 (λ e. f (or_left _ _ e))) (rest.1 (λ e. f (or_right _ _ e))),
      )

  -- the literal implies one of the others
  implies : (l : Lit) (others : List Lit) → Here (Kernel.Clause (negated l ∷ others)) ↔ (holds_here l ≡ true → list_any holds_here others ≡ true)
  implies l others = iff_through (clause_says (negated l ∷ others)) (by (holds_here l) (list_any holds_here others) (holds_here (negated l)) (negated_is l))
    where
      by : (b c d : Bool) → d ≡ not b → (d || c) ≡ true ↔ (b ≡ true → c ≡ true)
      by true c true e = cc
      by true c false e = (λ h f. h, λ h. h refl)
      by false c true e = (λ h f. cc, λ h. refl)
      by false c false e = cc

  -- the literal is true exactly where one of the others is
  some_of_says : (l : Lit) (others : List Lit) → All Here (some_of l others) ↔ holds_here l ≡ list_any holds_here others
  some_of_says l others =
      let each = all_imply l others in
      let last = implies l others in (
        λ h.
            let parts = all_parts Here (map (implication l) others) (Kernel.Clause (negated l ∷ others) ∷ []) h in
            same_truth (holds_here l) (list_any holds_here others) (last.0 (All-head Here (Kernel.Clause (negated l ∷ others)) [] parts.1)) (each.0 parts.0),
        λ e.
            All-append Here (map (implication l) others) (Kernel.Clause (negated l ∷ others) ∷ [])
            (each.1 (λ f. e ∙ f))
            (All-cons Here (Kernel.Clause (negated l ∷ others)) [] (last.1 (λ f. sym e ∙ f)) (All-nil Here)),
      )

-- ---- clauses that can be run

abbrev IsPlaced : ℕ → Lit → Type 0
IsPlaced count l = l.var < count

clause_placed : (count : ℕ) (lits : List Lit) → 0 < count → All (IsPlaced count) lits → All (λ v. v < count) (clause_vars lits)
unfolding clause_vars
clause_placed count [] some h = All-cons (λ v. v < count) 0 [] some (All-nil (λ v. v < count))
clause_placed count (l ∷ ls) some h = All-map (λ v. v < count) (λ (k : Lit). k.var) (l ∷ ls) h

clause_runs : (count : ℕ) (lits : List Lit) → 0 < count → All (IsPlaced count) lits → length lits ≤ literal_limit → IsKernel count (Kernel.Clause lits)
unfolding vars_of HasNumbers
clause_runs count lits some placed short = record {
  variables = are_variables count (clause_vars lits) (clause_placed count lits some placed);
  numbers = short;
}

few_literals : (n : ℕ) → n ≤ 131073 → n ≤ literal_limit
unfolding literal_limit
few_literals n h = h

module _ (count : ℕ) (some : 0 < count) where
  implications_run : (l : Lit) (others : List Lit) → IsPlaced count l → All (IsPlaced count) others → All (IsKernel count) (map (λ k. Kernel.Clause (l ∷ negated k ∷ [])) others)
  implications_run l [] p h = All-nil (IsKernel count)
  implications_run l (k ∷ ks) p h =
      let placed = all_two (IsPlaced count) l (negated k) p (All-head (IsPlaced count) k ks h) in
      All-cons (IsKernel count) (Kernel.Clause (l ∷ negated k ∷ [])) (map (λ j. Kernel.Clause (l ∷ negated j ∷ [])) ks)
      (clause_runs count (l ∷ negated k ∷ []) some placed (few_literals 2 (lit≤ tt)))
      (implications_run l ks p (All-tail (IsPlaced count) k ks h))

  some_of_runs : (l : Lit) (others : List Lit) → IsPlaced count l → All (IsPlaced count) others → length others ≤ 131072 → All (IsKernel count) (some_of l others)
  some_of_runs l others p h short =
      All-append (IsKernel count) (map (λ k. Kernel.Clause (l ∷ negated k ∷ [])) others) (Kernel.Clause (negated l ∷ others) ∷ [])
      (implications_run l others p h)
      (All-cons (IsKernel count) (Kernel.Clause (negated l ∷ others)) [] (clause_runs count (negated l ∷ others) some (All-cons (IsPlaced count) (negated l) others p h) (few_literals (suc (length others)) (omega arith))) (All-nil (IsKernel count)))

some_of_count : (l : Lit) (others : List Lit) → length (some_of l others) ≡ length others + 1
some_of_count l others =
    let e = length-append (map (λ k. Kernel.Clause (l ∷ negated k ∷ [])) others) (Kernel.Clause (negated l ∷ others) ∷ []) in
    let m = length-map {B = Kernel} others (λ k. Kernel.Clause (l ∷ negated k ∷ [])) in
    omega arith

-- ---- the literals of terms

module _ (vars : List VarDecl) (constants : List ℤ) where
  abbrev literal : Term → Lit
  literal t = literal_of (numbering_of vars constants) t

  abbrev opposite : Term → Lit
  opposite t = opposite_of (numbering_of vars constants) t

  abbrev Has : Term → Type 0
  Has t = HasVariable vars constants t

  -- the literals of terms, of either sign, are the program's
  all_placed : (ts : List Term) → All Has ts → All (λ t. variable_of (numbering_of vars constants) t < size_of vars constants) ts
  all_placed ts h = All-weaker Has (λ t. variable_of (numbering_of vars constants) t < size_of vars constants) (variable_inside vars constants) ts h

  literals_placed : (ts : List Term) → All Has ts → All (IsPlaced (size_of vars constants)) (map literal ts)
  literals_placed ts h = All-map (IsPlaced (size_of vars constants)) literal ts (all_placed ts h)

  opposites_placed : (ts : List Term) → All Has ts → All (IsPlaced (size_of vars constants)) (map opposite ts)
  opposites_placed ts h = All-map (IsPlaced (size_of vars constants)) opposite ts (all_placed ts h)

  clause_literals_placed : (ps ns : List Term) → All Has ps → All Has ns → All (IsPlaced (size_of vars constants)) (clause_literals (numbering_of vars constants) ps ns)
  clause_literals_placed ps ns h g = All-append (IsPlaced (size_of vars constants)) (map literal ps) (map opposite ns) (literals_placed ps h) (opposites_placed ns g)

  module _ (a : List ℤ) (w : IsWithin a vars) where
    abbrev numbers : List ℤ
    numbers = with_constants constants a

    literal_says : (t : Term) → Has t → holds_here numbers (literal t) ≡ is_true (value a t)
    literal_says t h = ap is_true (value_is vars constants a w t h)

    opposite_says : (t : Term) → Has t → holds_here numbers (opposite t) ≡ not (is_true (value a t))
    opposite_says t h = opposite_sign true (value_of numbers (variable_of (numbering_of vars constants) t)) ∙ ap not (literal_says t h)

    -- some literal of the terms is true exactly where what the literals say is true of some value
    some_say : (f : Term → Lit) (q : ℤ → Bool) → ((t : Term) → Has t → holds_here numbers (f t) ≡ q (value a t)) → (ts : List Term) → All Has ts
        → list_any (holds_here numbers) (map f ts) ≡ list_any q (map (value a) ts)
    some_say f q says [] h = refl
    some_say f q says (t ∷ ts) h =
        let one = says t (All-head Has t ts h) in
        let rest = some_say f q says ts (All-tail Has t ts h) in
        cc

    literals_say : (ts : List Term) → All Has ts → list_any (holds_here numbers) (map literal ts) ≡ list_any is_true (map (value a) ts)
    literals_say ts h = some_say literal is_true literal_says ts h

    opposites_say : (ts : List Term) → All Has ts → list_any (holds_here numbers) (map opposite ts) ≡ list_any (λ z. not (is_true z)) (map (value a) ts)
    opposites_say ts h = some_say opposite (λ z. not (is_true z)) opposite_says ts h

    -- ---- what the kernels hold

    disjunction_says : (xs : List Term) (r : Term) → All Has xs → Has r → All (Here numbers) (disjunction (numbering_of vars constants) xs r) ↔ IsDisjunction (map (value a) xs) (value a r)
    disjunction_says xs r h hr =
        iff_through (some_of_says numbers (literal r) (map literal xs))
        (iff_through (ends_same _ _ _ _ (literal_says r hr) (literals_say xs h))
        (truths_say (is_true (value a r)) (list_any is_true (map (value a) xs)) (positive_true (value a r)) (some_iff is_true IsTrueNumber (map (value a) xs) positive_true)))

    conjunction_says : (xs : List Term) (r : Term) → All Has xs → Has r → All (Here numbers) (conjunction (numbering_of vars constants) xs r) ↔ IsConjunction (map (value a) xs) (value a r)
    conjunction_says xs r h hr =
        iff_through (some_of_says numbers (opposite r) (map opposite xs))
        (iff_through (ends_same _ _ _ _ (opposite_says r hr) (opposites_say xs h ∙ some_not is_true (map (value a) xs)))
        (iff_through (not_same (is_true (value a r)) (list_all is_true (map (value a) xs)))
        (truths_say (is_true (value a r)) (list_all is_true (map (value a) xs)) (positive_true (value a r)) (each_iff is_true IsTrueNumber (map (value a) xs) positive_true))))

    -- one of the literals of a clause is true exactly where the clause holds
    literals_hold : (ps ns : List Term) → All Has ps → All Has ns
        → list_any (holds_here numbers) (clause_literals (numbering_of vars constants) ps ns) ≡ true ↔ IsClause (map (value a) ps) (map (value a) ns)
    literals_hold ps ns h g =
        let e = list_any-append (holds_here numbers) (map literal ps) (map opposite ns) in
        let first = some_iff is_true IsTrueNumber (map (value a) ps) positive_true in
        let second = some_iff (λ z. not (is_true z)) (λ z. IsTrueNumber z → ⊥) (map (value a) ns) is_false_says in
        let s = literals_say ps h in
        let t = opposites_say ns g in (
          λ x.
              truth_or (list_any (holds_here numbers) (map literal ps)) (list_any (holds_here numbers) (map opposite ns)) (sym e ∙ x)
              (λ y. inl (first.0 (sym s ∙ y))) (λ y. inr (second.0 (sym t ∙ y))),
          λ c. e ∙ by (list_any (holds_here numbers) (map literal ps)) (list_any (holds_here numbers) (map opposite ns)) (λ p. s ∙ first.1 p) (λ n. t ∙ second.1 n) c,
        )
      where
        by : {P Q : Type 0} (b c : Bool) → (P → b ≡ true) → (Q → c ≡ true) → P ⊎ Q → (b || c) ≡ true
        by b c f g (inl p) = or_left b c (f p)
        by b c f g (inr q) = or_right b c (g q)

  -- ---- the rows

  some_variable : 0 < size_of vars constants
  some_variable = omega arith

  disjunction_runs : (xs : List Term) (r : Term) → length xs ≤ most_entries → All Has xs → Has r → All (IsKernel (size_of vars constants)) (disjunction (numbering_of vars constants) xs r)
  disjunction_runs xs r short h hr =
      let e = length-map {B = Lit} xs literal in
      some_of_runs (size_of vars constants) some_variable (literal r) (map literal xs) (variable_inside vars constants r hr) (literals_placed xs h) (omega arith)

  conjunction_runs : (xs : List Term) (r : Term) → length xs ≤ most_entries → All Has xs → Has r → All (IsKernel (size_of vars constants)) (conjunction (numbering_of vars constants) xs r)
  conjunction_runs xs r short h hr =
      let e = length-map {B = Lit} xs opposite in
      some_of_runs (size_of vars constants) some_variable (opposite r) (map opposite xs) (variable_inside vars constants r hr) (opposites_placed xs h) (omega arith)

  clause_count : (ps ns : List Term) → length (clause_literals (numbering_of vars constants) ps ns) ≡ length ps + length ns
  clause_count ps ns =
      let e = length-append (map literal ps) (map opposite ns) in
      let p = length-map {B = Lit} ps literal in
      let n = length-map {B = Lit} ns opposite in
      omega arith

  abbrev BooleanIs : Scalar → Type 0
  BooleanIs s = OneIs vars constants true s

  abbrev ArrayIs : Array → Type 0
  ArrayIs array = RowIs vars constants array

  abbrev Row : ConstraintName → List Meaning → Type 0
  Row name ms = RowMeans vars constants name ms

  -- an array and a boolean
  on_array : (name : ConstraintName)
      → ((xs : Array) (r : Scalar) → ArrayIs xs → BooleanIs r → Row name (Meaning.Row xs ∷ Meaning.One r ∷ []))
      → Law vars constants name (Letter.Booleans ∷ Letter.Boolean ∷ [])
  on_array name f ms h e =
      at_two vars constants Letter.Booleans Letter.Boolean (Row name)
      (λ m n hm hn.
      at_row vars constants (λ k. Row name (k ∷ n ∷ []))
      (λ xs hx. at_boolean vars constants (λ k. Row name (Meaning.Row xs ∷ k ∷ [])) (λ r hr. f xs r hx hr) n hn) Letter.Booleans tt m hm)
      ms h

  -- two arrays
  on_arrays : (name : ConstraintName)
      → ((xs ys : Array) → ArrayIs xs → ArrayIs ys → Row name (Meaning.Row xs ∷ Meaning.Row ys ∷ []))
      → Law vars constants name (Letter.Booleans ∷ Letter.Booleans ∷ [])
  on_arrays name f ms h e =
      at_two vars constants Letter.Booleans Letter.Booleans (Row name)
      (λ m n hm hn.
      at_row vars constants (λ k. Row name (k ∷ n ∷ []))
      (λ xs hx. at_row vars constants (λ k. Row name (Meaning.Row xs ∷ k ∷ [])) (λ ys hy. f xs ys hx hy) Letter.Booleans tt n hn) Letter.Booleans tt m hm)
      ms h

  -- two arrays and a boolean
  on_reified_arrays : (name : ConstraintName)
      → ((xs ys : Array) (r : Scalar) → ArrayIs xs → ArrayIs ys → BooleanIs r → Row name (Meaning.Row xs ∷ Meaning.Row ys ∷ Meaning.One r ∷ []))
      → Law vars constants name (Letter.Booleans ∷ Letter.Booleans ∷ Letter.Boolean ∷ [])
  on_reified_arrays name f ms h e =
      at_three vars constants Letter.Booleans Letter.Booleans Letter.Boolean (Row name)
      (λ m n o hm hn ho.
      at_row vars constants (λ k. Row name (k ∷ n ∷ o ∷ []))
      (λ xs hx. at_row vars constants (λ k. Row name (Meaning.Row xs ∷ k ∷ o ∷ []))
      (λ ys hy. at_boolean vars constants (λ k. Row name (Meaning.Row xs ∷ Meaning.Row ys ∷ k ∷ [])) (λ r hr. f xs ys r hx hy hr) o ho)
      Letter.Booleans tt n hn) Letter.Booleans tt m hm)
      ms h

  pub bool_and : Law vars constants ConstraintName.BoolAnd (Letter.Boolean ∷ Letter.Boolean ∷ Letter.Boolean ∷ [])
  unfolding row_of kernels_of HoldsOn
  bool_and = by_three vars constants ConstraintName.BoolAnd true true true (λ x y r hx hy hr. record {
    can_run = conjunction_runs (x.term ∷ y.term ∷ []) r.term (lit≤ tt) (two_have vars constants x.term y.term hx.has hy.has) hr.has;
    count = refl;
    meaning = λ a w. conjunction_says a w (x.term ∷ y.term ∷ []) r.term (two_have vars constants x.term y.term hx.has hy.has) hr.has;
  })

  pub bool_or : Law vars constants ConstraintName.BoolOr (Letter.Boolean ∷ Letter.Boolean ∷ Letter.Boolean ∷ [])
  unfolding row_of kernels_of HoldsOn
  bool_or = by_three vars constants ConstraintName.BoolOr true true true (λ x y r hx hy hr. record {
    can_run = disjunction_runs (x.term ∷ y.term ∷ []) r.term (lit≤ tt) (two_have vars constants x.term y.term hx.has hy.has) hr.has;
    count = refl;
    meaning = λ a w. disjunction_says a w (x.term ∷ y.term ∷ []) r.term (two_have vars constants x.term y.term hx.has hy.has) hr.has;
  })

  terms_short : (es : List Scalar) → length es ≤ most_entries → length (terms_of es) ≤ most_entries
  terms_short es h =
      let e = length-map {B = Term} es (λ s. s.term) in
      omega arith

  pub array_bool_and : Law vars constants ConstraintName.ArrayBoolAnd (Letter.Booleans ∷ Letter.Boolean ∷ [])
  unfolding row_of kernels_of HoldsOn
  array_bool_and = on_array ConstraintName.ArrayBoolAnd (λ xs r hx hr. record {
    can_run = conjunction_runs (terms_of xs.entries) r.term (terms_short xs.entries hx.short) hx.has hr.has;
    count = some_of_count (opposite r.term) (map opposite (terms_of xs.entries)) ∙ ap (λ n. n + 1) (length-map {B = Lit} (terms_of xs.entries) opposite);
    meaning = λ a w. conjunction_says a w (terms_of xs.entries) r.term hx.has hr.has;
  })

  pub array_bool_or : Law vars constants ConstraintName.ArrayBoolOr (Letter.Booleans ∷ Letter.Boolean ∷ [])
  unfolding row_of kernels_of HoldsOn
  array_bool_or = on_array ConstraintName.ArrayBoolOr (λ xs r hx hr. record {
    can_run = disjunction_runs (terms_of xs.entries) r.term (terms_short xs.entries hx.short) hx.has hr.has;
    count = some_of_count (literal r.term) (map literal (terms_of xs.entries)) ∙ ap (λ n. n + 1) (length-map {B = Lit} (terms_of xs.entries) literal);
    meaning = λ a w. disjunction_says a w (terms_of xs.entries) r.term hx.has hr.has;
  })

  clause_length : (xs ys : Array) → ArrayIs xs → ArrayIs ys → length (clause_literals (numbering_of vars constants) (terms_of xs.entries) (terms_of ys.entries)) ≤ 131072
  clause_length xs ys hx hy =
      let e = clause_count (terms_of xs.entries) (terms_of ys.entries) in
      let x = terms_short xs.entries hx.short in
      let y = terms_short ys.entries hy.short in
      omega arith

  clause_is : (xs ys : Array) → ArrayIs xs → ArrayIs ys
      → MeansOne vars constants (λ a. IsClause (map (value a) (terms_of xs.entries)) (map (value a) (terms_of ys.entries))) (Kernel.Clause (clause_literals (numbering_of vars constants) (terms_of xs.entries) (terms_of ys.entries)))
  clause_is xs ys hx hy =
      let lits : List Lit = clause_literals (numbering_of vars constants) (terms_of xs.entries) (terms_of ys.entries) in
      let n = clause_length xs ys hx hy in
      record {
        can_run = clause_runs (size_of vars constants) lits some_variable (clause_literals_placed (terms_of xs.entries) (terms_of ys.entries) hx.has hy.has) (few_literals (length lits) (omega arith));
        meaning = λ a w. iff_through (clause_says (with_constants constants a) lits) (literals_hold a w (terms_of xs.entries) (terms_of ys.entries) hx.has hy.has);
      }

  pub bool_clause : Law vars constants ConstraintName.BoolClause (Letter.Booleans ∷ Letter.Booleans ∷ [])
  unfolding row_of kernels_of HoldsOn
  bool_clause = on_arrays ConstraintName.BoolClause (λ xs ys hx hy. alone vars constants refl (clause_is xs ys hx hy))

  pub bool_clause_reif : Law vars constants ConstraintName.BoolClauseReif (Letter.Booleans ∷ Letter.Booleans ∷ Letter.Boolean ∷ [])
  unfolding row_of kernels_of HoldsOn
  bool_clause_reif = on_reified_arrays ConstraintName.BoolClauseReif (λ xs ys r hx hy hr.
      let lits : List Lit = clause_literals (numbering_of vars constants) (terms_of xs.entries) (terms_of ys.entries) in
      record {
        can_run = some_of_runs (size_of vars constants) some_variable (literal r.term) lits (variable_inside vars constants r.term hr.has)
            (clause_literals_placed (terms_of xs.entries) (terms_of ys.entries) hx.has hy.has) (clause_length xs ys hx hy);
        count = some_of_count (literal r.term) lits ∙ ap (λ n. n + 1) (clause_count (terms_of xs.entries) (terms_of ys.entries));
        meaning = λ a w.
            iff_through (some_of_says (with_constants constants a) (literal r.term) lits)
            (iff_through (ends_same _ _ _ _ (literal_says a w r.term hr.has) refl)
            (truths_say (is_true (value a r.term)) (list_any (holds_here (with_constants constants a)) lits) (positive_true (value a r.term)) (literals_hold a w (terms_of xs.entries) (terms_of ys.entries) hx.has hy.has)));
      })
