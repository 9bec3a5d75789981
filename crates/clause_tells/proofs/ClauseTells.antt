-- The tells of a clause by the number of literals that aren't out.
use Rattle.std.proofs.Common.{◌≡◌, ℕ, zero, suc, ◌+◌, ◌<◌, ◌≤◌, min, List, [], ◌∷◌, ◌++◌, length, get_or, Bool, true, false, not, ◌&&◌, cond, eqb, pos, refl, sym, ap, subst, ◌∙◌, arith}
use Rattle.std.proofs.lemmas.List.{length-map, get_or-map}
use Rattle.std.proofs.lemmas.List.Sums.{sum_by-cons}
use Rattle.std.proofs.lemmas.Bool.Decides.{nat_tests}
use Rattle.std.specs.List.{list_all, flat_map, count_by}
use Rattle.tells.specs.declared.tell.Lit.{Lit}
use Rattle.interval.specs.Boxes.{Bounds}
use Rattle.interval.specs.Limits.{bound_limit}
use Rattle.tells.specs.Words.{low_tell, when, is_out, tell_true, AreVariables}
use Rattle.tell_laws.proofs.Lists.{flat_map_same}
use Rattle.clause_tells.specs.Clause.{clause_vars, clause_tells, sole_tells, sole_tell, AreLiterals}

-- the number of literals that aren't out
abbrev pub left_of : Bounds → List Lit → ℕ
left_of b ls = count_by (λ k. not (is_out k b)) ls

pub left_more : (b : Bounds) (l : Lit) (ls : List Lit) → left_of b (l ∷ ls) ≡ cond (is_out l b) 0 1 + left_of b ls
left_more b l ls = sum_by-cons (λ k. cond (not (is_out k b)) 1 0) l ls ∙ ap (λ n. n + left_of b ls) (turned (is_out l b)) where
  turned : (t : Bool) → ◌≡◌ {A = ℕ} (cond (not t) 1 0) (cond t 0 1)
  turned true = refl
  turned false = refl

-- all are out where none is left
none_left : (b : Bounds) (ls : List Lit) → list_all (λ k. is_out k b) ls ≡ eqb (left_of b ls) 0
none_left b [] = refl
none_left b (l ∷ ls) = ap (λ t. is_out l b && t) (none_left b ls) ∙ (joined (is_out l b) (left_of b ls) ∙ ap (λ n. eqb n 0) (sym (left_more b l ls))) where
  joined : (t : Bool) (n : ℕ) → (t && eqb n 0) ≡ eqb (cond t 0 1 + n) 0
  joined true n = grind (arith, nat_tests)
  joined false n = grind (arith, nat_tests)

-- the tests of one literal agree: n of those before it are left, c of those after
sole_test : (t : Bool) (n c total : ℕ) → total ≡ n + (cond t 0 1 + c) → (eqb n 0 && eqb c 0) ≡ eqb total (cond t 0 1)
sole_test true n c total e = grind (arith, nat_tests)
sole_test false n c total e = grind (arith, nat_tests)

next_test : (t : Bool) (n : ℕ) → (eqb n 0 && t) ≡ eqb (n + cond t 0 1) 0
next_test true n = grind (arith, nat_tests)
next_test false n = grind (arith, nat_tests)

sole_from : (b : Bounds) (before : Bool) (n total : ℕ) (ls : List Lit) → before ≡ eqb n 0 → total ≡ n + left_of b ls → sole_tells before ls b ≡ flat_map (sole_tell total b) ls
unfolding sole_tells sole_tell
sole_from b before n total [] e f = refl
sole_from b before n total (l ∷ ls) e f =
    let t = is_out l b in
    let c = left_of b ls in
    let sum : total ≡ n + (cond t 0 1 + c) = f ∙ ap (λ m. n + m) (left_more b l ls) in
    let head : (before && list_all (λ k. is_out k b) ls) ≡ eqb total (cond t 0 1) = (λ i. e i && none_left b ls i) ∙ sole_test t n c total sum in
    let rest = sole_from b (before && t) (n + cond t 0 1) total ls (ap (λ s. s && t) e ∙ next_test t n) (omega arith) in
    (λ i. when (head i) (tell_true l ∷ []) ++ rest i)

pub clause_by_count : (b : Bounds) (lits : List Lit) → 0 < length lits → clause_tells lits b ≡ flat_map (sole_tell (left_of b lits) b) lits
unfolding clause_tells
clause_by_count b [] h = absurd (omega arith)
clause_by_count b (l ∷ ls) h = sole_from b true 0 (left_of b (l ∷ ls)) (l ∷ ls) refl (omega arith)

-- two that are left count as more
same_sole : (b : Bounds) (n : ℕ) (l : Lit) → sole_tell n b l ≡ sole_tell (min n 2) b l
unfolding sole_tell
same_sole b n l = ap (λ t. when t (tell_true l ∷ [])) (same_test (is_out l b) n) where
  same_test : (t : Bool) (n : ℕ) → eqb n (cond t 0 1) ≡ eqb (min n 2) (cond t 0 1)
  same_test true n = grind (arith, nat_tests)
  same_test false n = grind (arith, nat_tests)

pub clause_by_few : (b : Bounds) (lits : List Lit) (few : ℕ) → 0 < length lits → few ≡ min (left_of b lits) 2 → clause_tells lits b ≡ flat_map (sole_tell few b) lits
clause_by_few b lits few h e =
    clause_by_count b lits h
    ∙ flat_map_same (sole_tell (left_of b lits) b) (sole_tell (min (left_of b lits) 2) b) lits (record { var = 0; positive = true }) (λ i l. same_sole b (left_of b lits) (get_or lits i (record { var = 0; positive = true })))
    ∙ ap (λ n. flat_map (sole_tell n b) lits) (sym e)

none_sole : (b : Bounds) (few : ℕ) (ls : List Lit) → 2 ≤ few → flat_map (sole_tell few b) ls ≡ []
unfolding sole_tell
none_sole b few [] h = refl
none_sole b few (l ∷ ls) h = (λ i. when (far (is_out l b) few h i) (tell_true l ∷ []) ++ none_sole b few ls h i) where
  far : (t : Bool) (n : ℕ) → 2 ≤ n → eqb n (cond t 0 1) ≡ false
  far true n h = grind (arith, nat_tests)
  far false n h = grind (arith, nat_tests)

pub clause_of_many : (b : Bounds) (lits : List Lit) (few : ℕ) → 0 < length lits → few ≡ min (left_of b lits) 2 → 2 ≤ few → clause_tells lits b ≡ []
clause_of_many b lits few h e m = clause_by_few b lits few h e ∙ none_sole b few lits m

pub clause_of_none : (b : Bounds) (lits : List Lit) → length lits ≡ 0 → clause_tells lits b ≡ low_tell 0 (pos bound_limit) ∷ []
unfolding clause_tells
clause_of_none b [] h = refl
clause_of_none b (l ∷ ls) h = absurd (omega arith)

pub length-clause : (lits : List Lit) → 0 < length lits → length (clause_vars lits) ≡ length lits
unfolding clause_vars
length-clause [] h = absurd (omega arith)
length-clause (l ∷ ls) h = ap suc (length-map ls (λ k. k.var))

pub get_or-clause : (lits : List Lit) (i : ℕ) (d : Lit) → i < length lits → get_or (clause_vars lits) i 0 ≡ (get_or lits i d).var
unfolding clause_vars
get_or-clause [] i d h = absurd (omega arith)
get_or-clause (l ∷ ls) zero d h = refl
get_or-clause (l ∷ ls) (suc i) d h = get_or-map (λ k. k.var) ls i d 0 (omega arith)

-- the literals of a clause are in the box where its variables are
pub literals_in : (count : ℕ) (lits : List Lit) → 0 < length lits → AreVariables count (clause_vars lits) → AreLiterals count lits
literals_in count lits n variables i d h =
    let at : i < length (clause_vars lits) = omega (arith, length-clause lits n) in
    let P : ℕ → Type 0 = λ v. v < count in
    subst P (get_or-clause lits i d h) (variables.each i at)
