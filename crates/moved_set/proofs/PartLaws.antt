-- Kernels' variables in two parts.
use Rattle.std.proofs.Common.{◌≡◌, ◌≢◌, ℕ, zero, suc, ◌+◌, ◌<◌, ◌≤◌, List, [], ◌∷◌, ◌++◌, length, get_or, take, drop, refl, sym, ◌∙◌, ap, subst, ⊎_elim, arith, inl, inr}
use Rattle.std.specs.Prelude.{Contains}
use Rattle.std.proofs.lemmas.Bool.{cases_eq, cases_lt}
use Rattle.std.proofs.lemmas.List.{length_push, get_or-map, get_or_append_left, get_or_push, get_or_past, get_or_default}
use Rattle.std.proofs.lemmas.List.Elements.{Contains-append_left, Contains-append_right}
use Rattle.guarded_tell.specs.declared.kernel.Kernel.{Kernel}
use Rattle.guarded_tell.specs.Words.{AreVariables}
use Rattle.guarded_tell.specs.Kernels.{vars_of}
use Rattle.moved_set.specs.declared.parts.Part.{Part}
use Rattle.moved_set.specs.Parts.{vars_at, list_at, part_at, HasList, IsPart, AreLists, AreParts, GrowsBy}

-- the variables of the kernel at a place, as the code lends it
pub vars_lent : (kernels : List Kernel) (j : ℕ) (k : Kernel) → j < length kernels → k ≡ get_or kernels j k → vars_at kernels j ≡ vars_of k
vars_lent kernels j k h is = get_or-map vars_of kernels j k [] h ∙ ap vars_of (sym is)

pub vars_are : (kernels : List Kernel) (j : ℕ) (d : Kernel) → j < length kernels → vars_at kernels j ≡ vars_of (get_or kernels j d)
vars_are kernels j d h = get_or-map vars_of kernels j d [] h

pub below_all : (count : ℕ) (vars : List ℕ) (v : ℕ) → AreVariables count vars → Contains vars v → v < count
below_all count vars v are some =
    let each : get_or vars some.0 0 < count = are.each some.0 some.1 in
    let is : get_or vars some.0 0 ≡ v = get_or_default vars some.0 0 v some.1 ∙ some.2 in
    omega arith

-- ---- a list among variables

-- a variable of the list is one of the variables
pub in_list : (vars : List ℕ) (before : ℕ) (list : List ℕ) (v : ℕ) → HasList vars before list → Contains list v → Contains vars v
in_list vars before list v has c =
    let front : List ℕ = take before vars in
    subst (λ (xs : List ℕ). Contains xs v) (sym has.parted)
    (Contains-append_left (front ++ list) (drop (before + length list) vars) v (Contains-append_right front list v c))

-- the list of a part lies among the kernel's variables, as the code lends the three
pub part_within : (kernels : List Kernel) (j : ℕ) (k : Kernel) (lists : List (List ℕ)) (parts : List Part) (part : Part) (list : List ℕ) → j < length kernels → AreParts kernels (length kernels) lists parts
    → k ≡ get_or kernels j k → part ≡ get_or parts j part → list ≡ get_or lists part.list list → part.before + length list ≤ length (vars_of k)
part_within kernels j k lists parts part list h are kernel_is part_is list_is =
    let none : Part = record { before = 0; list = 0 } in
    let len = are.same_length in
    let at : part ≡ part_at parts j = part_is ∙ get_or_default parts j part none (omega arith) in
    let is : IsPart (vars_of k) lists part =
    subst (λ (vs : List ℕ). IsPart vs lists part) (vars_lent kernels j k h kernel_is) (subst (IsPart (vars_at kernels j) lists) (sym at) (are.each j h)) in
    let same = ap length (list_is ∙ get_or_default lists part.list list [] is.there) in
    let within = is.has.within in
    omega arith

-- ---- lists that grow

lists_kept : (vars : List ℕ) (old new : List (List ℕ)) (l : ℕ) → GrowsBy vars old new → l < length old → (l < length new) × (list_at new l ≡ list_at old l)
lists_kept vars old new l (inl same) h = (subst (λ (xs : List (List ℕ)). l < length xs) (sym same) h, ap (λ (xs : List (List ℕ)). list_at xs l) same)
lists_kept vars old new l (inr (before, list, has, is)) h =
    let len = length_push old list in
    let more : length new ≡ length old + 1 = ap length is ∙ len in
    (omega arith, ap (λ (xs : List (List ℕ)). list_at xs l) is ∙ get_or_append_left old (list ∷ []) [] l h)

pub lists_grown : (count : ℕ) (vars : List ℕ) (old new : List (List ℕ)) → AreVariables count vars → AreLists count old → GrowsBy vars old new → AreLists count new
lists_grown count vars old new below are (inl same) = subst (AreLists count) (sym same) are
lists_grown count vars old new below are (inr (front, list, has, is)) =
    subst (AreLists count) (sym is) (record {
      some = let len = length_push old list in omega arith;
      empty = get_or_append_left old (list ∷ []) [] 0 are.some ∙ are.empty;
      variables = λ l v c.
          let len = length_push old list in
          let before : l < length old → v < count =
          λ h. are.variables l v (subst (λ (xs : List ℕ). Contains xs v) (get_or_append_left old (list ∷ []) [] l h) c) in
          let after : length old ≤ l → v < count =
          λ h.
          let here : l ≡ length old → v < count =
          λ e.
          let at : list_at (old ++ list ∷ []) l ≡ list = get_or_push old list [] l (sym e) in
          let inside : Contains list v = subst (λ (xs : List ℕ). Contains xs v) at c in
          below_all count vars v below (in_list vars front list v has inside) in
          let past : l ≢ length old → v < count =
          λ ne.
          let none : list_at (old ++ list ∷ []) l ≡ [] = get_or_past (old ++ list ∷ []) l [] (omega arith) in
          let lt = (subst (λ (xs : List ℕ). Contains xs v) none c).1 in
          absurd (omega arith) in
          ⊎_elim here past (cases_eq l (length old)) in
          ⊎_elim before after (cases_lt l (length old));
    })

-- ---- parts

pub part_grown : (vars more : List ℕ) (old new : List (List ℕ)) (part : Part) → GrowsBy more old new → IsPart vars old part → IsPart vars new part
part_grown vars more old new part grows is =
    let kept = lists_kept more old new part.list grows is.there in
    record {
      there = kept.0;
      has = subst (HasList vars part.before) (sym kept.1) is.has;
    }

pub parts_more : (kernels : List Kernel) (j : ℕ) (k : Kernel) (old new : List (List ℕ)) (parts : List Part) (part : Part) → j < length kernels → k ≡ get_or kernels j k
    → GrowsBy (vars_of k) old new → IsPart (vars_of k) new part → AreParts kernels j old parts → AreParts kernels (j + 1) new (parts ++ part ∷ [])
parts_more kernels j k old new parts part h is grows one are =
    let none : Part = record { before = 0; list = 0 } in
    record {
      same_length = length_push parts part ∙ ap (λ (n : ℕ). n + 1) are.same_length;
      each = λ i lt.
          let len = are.same_length in
          let before : i < j → IsPart (vars_at kernels i) new (part_at (parts ++ part ∷ []) i) =
          λ below.
          subst (IsPart (vars_at kernels i) new) (sym (get_or_append_left parts (part ∷ []) none i (omega arith)))
          (part_grown (vars_at kernels i) (vars_of k) old new (part_at parts i) grows (are.each i below)) in
          let here : j ≤ i → IsPart (vars_at kernels i) new (part_at (parts ++ part ∷ []) i) =
          λ above.
          let e : i ≡ j = omega arith in
          let vars : vars_of k ≡ vars_at kernels i = sym (vars_lent kernels j k h is) ∙ ap (vars_at kernels) (sym e) in
          subst (IsPart (vars_at kernels i) new) (sym (get_or_push parts part none i (omega arith)))
          (subst (λ (vs : List ℕ). IsPart vs new part) vars one) in
          ⊎_elim before here (cases_lt i j);
    }

pub parts_none : (kernels : List Kernel) (lists : List (List ℕ)) (parts : List Part) → parts ≡ [] → AreParts kernels 0 lists parts
parts_none kernels lists parts is = record { same_length = ap length is; each = λ j h. absurd (omega arith) }

pub lists_first : (count : ℕ) (lists : List (List ℕ)) → lists ≡ [] ∷ [] → AreLists count lists
lists_first count lists is = subst (AreLists count) (sym is) (record {
  some = omega arith;
  empty = refl;
  variables = none_there count;
})
  where
    none_there : (count l v : ℕ) → Contains (list_at ([] ∷ []) l) v → v < count
    none_there count zero v c = let lt = c.1 in absurd (omega arith)
    none_there count (suc l) v c = let lt = c.1 in absurd (omega arith)
