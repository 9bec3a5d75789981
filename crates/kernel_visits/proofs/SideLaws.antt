-- Clauses, and inequalities that have to hold, narrow nothing further inside as long as the bounds that they read stay.
use Rattle.std.proofs.Common.{◌≡◌, ℕ, zero, suc, ◌+◌, ◌==◌, ◌<◌, ◌≤◌, List, [], ◌∷◌, ◌++◌, length, get_or, Bool, true, false, not, ◌&&◌, cond, ℤ, pos, ◌*ℤ◌, ◌-ℤ◌, ◌≤ℤ◌, ◌<ℤ◌, negsuc, refl, sym, subst, ap, ◌∙◌, arith}
use Rattle.std.proofs.lemmas.Int.{ints, clamps}
use Rattle.std.proofs.lemmas.Bool.{and_from, and_parts, and_right, not_from_true, not_from_false, both_ways, true≢false}
use Rattle.std.proofs.lemmas.Bool.Decides.{Decides-eqb}
use Rattle.std.proofs.lemmas.List.{length-map, get_or-map, get_or_past}
use Rattle.std.proofs.Math.Nat.{mul-le-mul_left}
use borrow.Author.Differences.{up, down}
use Rattle.std.proofs.lemmas.List.Elements.{All-append}
use Rattle.std.specs.Int.RustNames.{int_lt, int_le}
use Rattle.std.specs.List.{All, list_all, zip, flat_map}
use Rattle.tells.specs.declared.tell.Lit.{Lit}
use Rattle.tells.specs.declared.tell.Tell.{Tell}
use Rattle.tells.specs.declared.tell.Side.{Side}
use Rattle.tells.specs.declared.tell.Side.TheVariants.{Low, High}
use Rattle.interval.specs.Limits.{ClampOrder}
use Rattle.interval.specs.Boxes.{Bounds, low_of, high_of, IsInside}
use Rattle.tells.specs.Words.{when, Keeps, is_sure, is_out, literal_true, tell_true, tell_false, sign_true, IsProperIn}
use Rattle.sum_tells.specs.Linear.{Term, least_of, greatest_of, sum_over, at_most_tell, more_than_tell, literal_tells, sure_tells, out_tells, bound_tells, at_most_tells, product_at_most}
use Rattle.clause_tells.specs.Clause.{clause_vars, clause_tells, sole_tells}
use Rattle.guarded_tell.specs.declared.kernel.Kernel.{Kernel}
use Rattle.guarded_tell.specs.declared.kernel.Kernel.TheVariants.{Le, Eq, Times, Div, Mod, Abs, Max, Min, Clause, Element, InSet, AllDiff, Cumulative}
use Rattle.guarded_tell.specs.Kernels.{vars_of, tells, HasNumbers, IsClosedUnder}
use Rattle.kernel_visits.specs.Sides.{sides_of, side_of_term, side_of_literal, side_of_sure, SameSide, AgreeInRead, IsOneSided, is_sided}
use Rattle.tell_laws.proofs.Lists.{All-left, All-right, All-one, All-when, when-All, flat_map_same}
use Rattle.tell_laws.proofs.LiteralLaws.{by_bool}
use Rattle.clause_tells.proofs.ClauseTells.{length-clause, get_or-clause}
use Rattle.sum_tells.proofs.SumLists.{sum_same}
use Rattle.sum_tells.proofs.TermLaws.{length-zip, get_or-zip}
use Rattle.small_sums.proofs.QuietLaws.{not_sure, sure_keeps}

-- ---- boxes inside each other

module _ (inner outer : Bounds) (inside : IsInside inner outer) where
  -- the bounds of any variable; one that isn't in the boxes has the same in both
  low_rises : (v : ℕ) → low_of outer v ≤ℤ low_of inner v
  low_rises v = by_bool (int_lt (pos v) (pos (length outer)))
      (λ t. inside.lows v (omega (arith, ints)))
      (λ f.
      let one = get_or_past outer v (pos 0, pos 0) (omega (arith, ints)) in
      let two = get_or_past inner v (pos 0, pos 0) (let e = inside.same_length in omega (arith, ints)) in
      let same : low_of outer v ≡ low_of inner v = ap (λ p. p.0) one ∙ sym (ap (λ p. p.0) two) in omega (arith, ints))

  high_falls : (v : ℕ) → high_of inner v ≤ℤ high_of outer v
  high_falls v = by_bool (int_lt (pos v) (pos (length outer)))
      (λ t. inside.highs v (omega (arith, ints)))
      (λ f.
      let one = get_or_past outer v (pos 0, pos 0) (omega (arith, ints)) in
      let two = get_or_past inner v (pos 0, pos 0) (let e = inside.same_length in omega (arith, ints)) in
      let same : high_of inner v ≡ high_of outer v = ap (λ p. p.1) two ∙ sym (ap (λ p. p.1) one) in omega (arith, ints))

  proper_outside : (vars : List ℕ) → IsProperIn vars inner → IsProperIn vars outer
  proper_outside vars proper i h =
      let v : ℕ = get_or vars i 0 in
      let p = proper i h in let l = low_rises v in let r = high_falls v in omega (arith, ints)

-- ---- clauses

all_same : (b c : Bounds) (ls : List Lit) → All (λ l. is_out l b ≡ is_out l c) ls → list_all (λ l. is_out l b) ls ≡ list_all (λ l. is_out l c) ls
all_same b c [] same = refl
all_same b c (l ∷ ls) same =
    let first = same 0 l (omega arith) in
    let rest = all_same b c ls (λ i d h. same (suc i) d (omega arith)) in
    (λ i. first i && rest i)

sole_same : (b c : Bounds) (s t : Bool) (ls : List Lit) → s ≡ t → All (λ l. is_out l b ≡ is_out l c) ls → sole_tells s ls b ≡ sole_tells t ls c
unfolding sole_tells
sole_same b c s t [] e same = refl
sole_same b c s t (l ∷ ls) e same =
    let first = same 0 l (omega arith) in
    let all = all_same b c ls (λ i d h. same (suc i) d (omega arith)) in
    let rest = sole_same b c (s && is_out l b) (t && is_out l c) ls (λ i. e i && first i) (λ i d h. same (suc i) d (omega arith)) in
    (λ i. when (e i && all i) (tell_true l ∷ []) ++ rest i)

pub clause_same : (lits : List Lit) (b c : Bounds) → All (λ l. is_out l b ≡ is_out l c) lits → clause_tells lits b ≡ clause_tells lits c
unfolding clause_tells
clause_same [] b c same = refl
clause_same (l ∷ ls) b c same = sole_same b c true true (l ∷ ls) refl same

-- a literal is false for both bounds where it is so for the one that is read
out_by_high : (low high : ℤ) → low ≤ℤ high → (not (sign_true true low) && not (sign_true true high)) ≡ not (sign_true true high)
out_by_high low high p = by_bool (sign_true true high)
    (λ t. and_right (not (sign_true true low)) (not (sign_true true high)) (not_from_true (sign_true true high) t) ∙ sym (not_from_true (sign_true true high) t))
    (λ f.
    let g : false ≡ sign_true true low = omega (arith, ints) in
    and_from (not (sign_true true low)) (not (sign_true true high)) (not_from_false (sign_true true low) (sym g)) (not_from_false (sign_true true high) f) ∙ sym (not_from_false (sign_true true high) f))

out_by_low : (low high : ℤ) → low ≤ℤ high → (not (sign_true false low) && not (sign_true false high)) ≡ not (sign_true false low)
out_by_low low high p = by_bool (sign_true false low)
    (λ t. ap (λ x. x && not (sign_true false high)) (not_from_true (sign_true false low) t) ∙ sym (not_from_true (sign_true false low) t))
    (λ f.
    let g : false ≡ sign_true false high = omega (arith, ints) in
    and_from (not (sign_true false low)) (not (sign_true false high)) (not_from_false (sign_true false low) f) (not_from_false (sign_true false high) (sym g)) ∙ sym (not_from_false (sign_true false low) f))

same_out_sign : (s : Bool) (v : ℕ) (b c : Bounds) → low_of b v ≤ℤ high_of b v → low_of c v ≤ℤ high_of c v → SameSide (cond s High Low) b c v
    → (not (sign_true s (low_of b v)) && not (sign_true s (high_of b v))) ≡ (not (sign_true s (low_of c v)) && not (sign_true s (high_of c v)))
same_out_sign true v b c p q same = out_by_high (low_of b v) (high_of b v) p ∙ ap (λ z. not (sign_true true z)) same ∙ sym (out_by_high (low_of c v) (high_of c v) q)
same_out_sign false v b c p q same = out_by_low (low_of b v) (high_of b v) p ∙ ap (λ z. not (sign_true false z)) same ∙ sym (out_by_low (low_of c v) (high_of c v) q)

same_out_read : (l : Lit) (b c : Bounds) → low_of b l.var ≤ℤ high_of b l.var → low_of c l.var ≤ℤ high_of c l.var → SameSide (side_of_literal l) b c l.var → is_out l b ≡ is_out l c
unfolding is_out
same_out_read l b c p q same = same_out_sign l.positive l.var b c p q same

-- what holds of each place of a clause's variables holds of each literal's variable
literal_here : (P : ℕ → Type 0) (lits : List Lit) → ((i : ℕ) → i < length (clause_vars lits) → P (get_or (clause_vars lits) i 0)) → All (λ l. P l.var) lits
literal_here P lits h i d l =
    let at : i < length (clause_vars lits) = omega (arith, length-clause lits (omega arith)) in
    subst P (get_or-clause lits i d l) (h i at)

literal_agrees : (b c : Bounds) (lits : List Lit) → AgreeInRead (Clause lits) b c → All (λ l. SameSide (side_of_literal l) b c l.var) lits
unfolding vars_of sides_of
literal_agrees b c lits same i d l =
    let at : i < length (clause_vars lits) = omega (arith, length-clause lits (omega arith)) in
    let side : Side = side_of_literal (get_or lits i d) in
    subst (SameSide side b c) (get_or-clause lits i d l)
    (same i side at (omega (arith, length-map lits side_of_literal), get_or-map side_of_literal lits i d side l))

clause_one_sided : (lits : List Lit) (b : Bounds) → IsOneSided (Clause lits) b
unfolding vars_of tells
clause_one_sided lits b outer inner within inside proper same kept =
    let wide = proper_outside inner outer inside (clause_vars lits) proper in
    let outs : All (λ l. is_out l outer ≡ is_out l inner) lits =
    λ i d h.
    let l = get_or lits i d in
    let own = literal_here (λ v. low_of outer v ≤ℤ high_of outer v) lits wide i d h in
    let new = literal_here (λ v. low_of inner v ≤ℤ high_of inner v) lits proper i d h in
    same_out_read l outer inner own new (literal_agrees outer inner lits same i d h) in
    record { proper = proper; kept = subst (All (Keeps inner)) (clause_same lits outer inner outs) kept }

-- ---- inequalities that have to hold

-- the least value of a term, by the sign of its coefficient
least_above : (a : ℤ) (x : ℕ) (b : Bounds) → low_of b x ≤ℤ high_of b x → pos 0 ≤ℤ a → least_of b (a, x) ≡ a *ℤ low_of b x
unfolding least_of
least_above (pos n) x b p s =
    let one : up (low_of b x) + down (high_of b x) ≤ up (high_of b x) + down (low_of b x) = omega (arith, ints) in
    let h : (pos n *ℤ low_of b x) ≤ℤ (pos n *ℤ high_of b x) = omega (arith, ints, mul-le-mul_left n one) in omega (arith, ints, clamps)
least_above (negsuc n) x b p s = absurd (omega (arith, ints))

least_below : (a : ℤ) (x : ℕ) (b : Bounds) → low_of b x ≤ℤ high_of b x → a <ℤ pos 0 → least_of b (a, x) ≡ a *ℤ high_of b x
unfolding least_of
least_below (pos n) x b p s = absurd (omega (arith, ints))
least_below (negsuc n) x b p s =
    let one : up (low_of b x) + down (high_of b x) ≤ up (high_of b x) + down (low_of b x) = omega (arith, ints) in
    let h : (negsuc n *ℤ high_of b x) ≤ℤ (negsuc n *ℤ low_of b x) = omega (arith, ints, mul-le-mul_left (suc n) one) in omega (arith, ints, clamps)

-- the least value of a term hangs on the bound that is read
least_read : (a : ℤ) (x : ℕ) (b c : Bounds) → low_of b x ≤ℤ high_of b x → low_of c x ≤ℤ high_of c x → SameSide (side_of_term a) b c x → least_of b (a, x) ≡ least_of c (a, x)
least_read a x b c p q same = by_bool (int_lt a (pos 0))
    (λ t.
    let highs : high_of b x ≡ high_of c x = subst (λ (r : Bool). SameSide (cond r High Low) b c x) t same in
    least_below a x b p (omega (arith, ints)) ∙ ap (λ (z : ℤ). a *ℤ z) highs ∙ sym (least_below a x c q (omega (arith, ints))))
    (λ f.
    let lows : low_of b x ≡ low_of c x = subst (λ (r : Bool). SameSide (cond r High Low) b c x) f same in
    least_above a x b p (omega (arith, ints)) ∙ ap (λ (z : ℤ). a *ℤ z) lows ∙ sym (least_above a x c q (omega (arith, ints))))

module _ (clamped : ClampOrder) (l : Lit) (coeffs : List ℤ) (vars : List ℕ) (limit : ℤ) (outer inner : Bounds)
    (least : (i : ℕ) → i < length (zip coeffs vars) → least_of outer (get_or (zip coeffs vars) i (pos 0, 0)) ≡ least_of inner (get_or (zip coeffs vars) i (pos 0, 0)))
    (sure : is_sure l outer ≡ true) (sure_inner : is_sure l inner ≡ true) where
  sums : sum_over (least_of outer) (zip coeffs vars) ≡ sum_over (least_of inner) (zip coeffs vars)
  sums = sum_same (least_of outer) (least_of inner) (zip coeffs vars) (pos 0, 0) least

  terms : flat_map (at_most_tell outer limit (sum_over (least_of outer) (zip coeffs vars))) (zip coeffs vars) ≡ flat_map (at_most_tell inner limit (sum_over (least_of inner) (zip coeffs vars))) (zip coeffs vars)
  terms = flat_map_same (at_most_tell outer limit (sum_over (least_of outer) (zip coeffs vars))) (at_most_tell inner limit (sum_over (least_of inner) (zip coeffs vars))) (zip coeffs vars) (pos 0, 0)
      (λ i h.
      let t = get_or (zip coeffs vars) i (pos 0, 0) in
      ap (λ (z : ℤ). product_at_most t.1 t.0 (limit -ℤ (z -ℤ least_of outer t))) sums
      ∙ ap (λ (z : ℤ). product_at_most t.1 t.0 (limit -ℤ (sum_over (least_of inner) (zip coeffs vars) -ℤ z))) (least i h))

  pub at_most_inside : All (Keeps inner) (at_most_tells l coeffs vars limit outer) → All (Keeps inner) (at_most_tells l coeffs vars limit inner)
  at_most_inside all =
      let P : Tell → Type 0 = Keeps inner in
      let ts = zip coeffs vars in
      let m = sum_over (least_of inner) ts in
      let n = sum_over (greatest_of inner) ts in
      let m' = sum_over (least_of outer) ts in
      let n' = sum_over (greatest_of outer) ts in
      let literals = All-left P (literal_tells l limit m' n') (bound_tells l ts limit m' n' outer) all in
      let bounds = All-right P (literal_tells l limit m' n') (bound_tells l ts limit m' n' outer) all in
      let falses = All-right P (when (int_le n' limit) (tell_true l ∷ [])) (when (int_lt limit m') (tell_false l ∷ [])) literals in
      let sures = All-left P (sure_tells l ts limit m' outer) (out_tells l ts limit n' outer) bounds in
      let given = when-All P (is_sure l outer) (flat_map (at_most_tell outer limit m') ts) sure sures in
      let here : All P (flat_map (at_most_tell inner limit m) ts) = subst (All P) terms given in
      let false_here : All P (when (int_lt limit m) (tell_false l ∷ [])) =
      subst (λ (z : ℤ). All P (when (int_lt limit z) (tell_false l ∷ []))) sums falses in
      All-append P (literal_tells l limit m n) (bound_tells l ts limit m n inner)
      (All-append P (when (int_le n limit) (tell_true l ∷ [])) (when (int_lt limit m) (tell_false l ∷ []))
      (All-when P (int_le n limit) (tell_true l ∷ []) (λ e. All-one P (tell_true l) (sure_keeps clamped inner l sure_inner)))
      false_here)
      (All-append P (sure_tells l ts limit m inner) (out_tells l ts limit n inner)
      (All-when P (is_sure l inner) (flat_map (at_most_tell inner limit m) ts) (λ e. here))
      (All-when P (is_out l inner) (flat_map (more_than_tell inner limit n) ts) (λ e. absurd (both_ways (is_sure l inner) (not_sure clamped inner l e) sure_inner))))

-- what is read of the terms
term_agrees : (b c : Bounds) (l : Lit) (coeffs : List ℤ) (vars : List ℕ) (limit : ℤ) → length coeffs ≡ length vars → AgreeInRead (Le l coeffs vars limit) b c
    → (i : ℕ) → i < length coeffs → SameSide (side_of_term (get_or coeffs i (pos 0))) b c (get_or vars i 0)
unfolding vars_of sides_of
term_agrees b c l coeffs vars limit e same i h =
    let side : Side = side_of_term (get_or coeffs i (pos 0)) in
    same (suc i) side (omega arith) (omega (arith, length-map coeffs side_of_term), get_or-map side_of_term coeffs i (pos 0) side h)

literal_agrees_sure : (b c : Bounds) (l : Lit) (coeffs : List ℤ) (vars : List ℕ) (limit : ℤ) → AgreeInRead (Le l coeffs vars limit) b c → SameSide (side_of_sure l) b c l.var
unfolding vars_of sides_of
literal_agrees_sure b c l coeffs vars limit same = same 0 (side_of_sure l) (omega arith) (omega arith, refl)

-- a literal is true for both bounds where it is so for the one that is read
sure_sign : (s : Bool) (v : ℕ) (b c : Bounds) → low_of b v ≤ℤ high_of b v → SameSide (cond s Low High) b c v
    → sign_true s (low_of c v) ≡ true → sign_true s (high_of c v) ≡ true → (sign_true s (low_of b v) && sign_true s (high_of b v)) ≡ true
sure_sign true v b c p same e f =
    let one : true ≡ sign_true true (low_of b v) = omega (arith, ints) in
    let two : true ≡ sign_true true (high_of b v) = omega (arith, ints) in
    and_from (sign_true true (low_of b v)) (sign_true true (high_of b v)) (sym one) (sym two)
sure_sign false v b c p same e f =
    let one : true ≡ sign_true false (low_of b v) = omega (arith, ints) in
    let two : true ≡ sign_true false (high_of b v) = omega (arith, ints) in
    and_from (sign_true false (low_of b v)) (sign_true false (high_of b v)) (sym one) (sym two)

sure_outside : (l : Lit) (b c : Bounds) → low_of b l.var ≤ℤ high_of b l.var → SameSide (side_of_sure l) b c l.var → is_sure l c ≡ true → is_sure l b ≡ true
unfolding is_sure
sure_outside l b c p same e =
    let parts = and_parts (literal_true l (low_of c l.var)) (literal_true l (high_of c l.var)) e in
    sure_sign l.positive l.var b c p same parts.0 parts.1

at_most_one_sided : ClampOrder → (l : Lit) (coeffs : List ℤ) (vars : List ℕ) (limit : ℤ) (outer inner : Bounds) → HasNumbers (Le l coeffs vars limit) → is_sure l inner ≡ true → IsInside inner outer
    → IsProperIn (l.var ∷ vars) inner → AgreeInRead (Le l coeffs vars limit) outer inner → All (Keeps inner) (at_most_tells l coeffs vars limit outer) → IsClosedUnder (Le l coeffs vars limit) inner
unfolding vars_of tells HasNumbers
at_most_one_sided clamped l coeffs vars limit outer inner numbers two inside proper same kept =
    let lengths = numbers.same_length in
    let wide = proper_outside inner outer inside (l.var ∷ vars) proper in
    let own = wide 0 (omega arith) in
    let one = sure_outside l outer inner own (literal_agrees_sure outer inner l coeffs vars limit same) two in
    let least : (i : ℕ) → i < length (zip coeffs vars) → least_of outer (get_or (zip coeffs vars) i (pos 0, 0)) ≡ least_of inner (get_or (zip coeffs vars) i (pos 0, 0)) =
    λ i h.
    let k : i < length coeffs = omega (arith, length-zip coeffs vars lengths) in
    let P : Term → Type 0 = λ t. least_of outer t ≡ least_of inner t in
    subst P (sym (get_or-zip coeffs vars i lengths))
    (least_read (get_or coeffs i (pos 0)) (get_or vars i 0) outer inner (wide (suc i) (omega arith)) (proper (suc i) (omega arith))
    (term_agrees outer inner l coeffs vars limit lengths same i k)) in
    record { proper = proper; kept = at_most_inside clamped l coeffs vars limit outer inner least one two kept }

-- ---- wherever the first variable is at least 1

sure_first : (s : Bool) (v : ℕ) (b : Bounds) → v ≡ 0 → s ≡ true → pos 1 ≤ℤ low_of b 0 → low_of b v ≤ℤ high_of b v → (sign_true s (low_of b v) && sign_true s (high_of b v)) ≡ true
sure_first false v b e f low order = absurd (true≢false (sym f))
sure_first true (suc v) b e f low order = absurd (omega arith)
sure_first true zero b e f low order =
    let one : true ≡ sign_true true (low_of b 0) = omega (arith, ints) in
    let two : true ≡ sign_true true (high_of b 0) = omega (arith, ints) in
    and_from (sign_true true (low_of b 0)) (sign_true true (high_of b 0)) (sym one) (sym two)

first_sure : (l : Lit) (b : Bounds) → ((l.var == 0) && l.positive) ≡ true → pos 1 ≤ℤ low_of b 0 → low_of b l.var ≤ℤ high_of b l.var → is_sure l b ≡ true
unfolding is_sure
first_sure l b e low order =
    let parts = and_parts (l.var == 0) l.positive e in
    sure_first l.positive l.var b ((Decides-eqb l.var 0).0 parts.0) parts.1 low order

first_rises : (inner b : Bounds) → IsInside inner b → pos 1 ≤ℤ low_of b 0 → pos 1 ≤ℤ low_of inner 0
first_rises inner b within low = let rise = low_rises inner b within 0 in omega (arith, ints)

at_most_sided : ClampOrder → (l : Lit) (coeffs : List ℤ) (vars : List ℕ) (limit : ℤ) (b : Bounds) → HasNumbers (Le l coeffs vars limit) → ((l.var == 0) && l.positive) ≡ true → pos 1 ≤ℤ low_of b 0
    → IsOneSided (Le l coeffs vars limit) b
unfolding vars_of tells
at_most_sided clamped l coeffs vars limit b numbers sided low outer inner within inside proper same kept =
    at_most_one_sided clamped l coeffs vars limit outer inner numbers (first_sure l inner sided (first_rises inner b within low) (proper 0 (omega arith))) inside proper same kept

pub sided_law : ClampOrder → (k : Kernel) (b : Bounds) → HasNumbers k → is_sided k ≡ true → pos 1 ≤ℤ low_of b 0 → IsOneSided k b
unfolding is_sided
sided_law clamped (Le l coeffs vars limit) b numbers sided low = at_most_sided clamped l coeffs vars limit b numbers sided low
sided_law clamped (Eq l coeffs vars limit) b numbers sided low = absurd (true≢false (sym sided))
sided_law clamped (Times x y z) b numbers sided low = absurd (true≢false (sym sided))
sided_law clamped (Div x y z) b numbers sided low = absurd (true≢false (sym sided))
sided_law clamped (Mod x y z) b numbers sided low = absurd (true≢false (sym sided))
sided_law clamped (Abs x y) b numbers sided low = absurd (true≢false (sym sided))
sided_law clamped (Max m xs) b numbers sided low = absurd (true≢false (sym sided))
sided_law clamped (Min m xs) b numbers sided low = absurd (true≢false (sym sided))
sided_law clamped (Clause lits) b numbers sided low = clause_one_sided lits b
sided_law clamped (Element x entries c) b numbers sided low = absurd (true≢false (sym sided))
sided_law clamped (InSet l x ranges) b numbers sided low = absurd (true≢false (sym sided))
sided_law clamped (AllDiff xs) b numbers sided low = absurd (true≢false (sym sided))
sided_law clamped (Cumulative starts durations usages limit) b numbers sided low = absurd (true≢false (sym sided))
