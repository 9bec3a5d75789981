-- The laws of the clause.
use Rattle.std.proofs.Common.{◌≡◌, ℕ, zero, suc, ◌<◌, List, [], ◌∷◌, ◌++◌, length, get_or, Bool, true, false, ◌&&◌, ℤ, pos, ◌≤ℤ◌, refl, sym, subst, arith}
use Rattle.std.proofs.lemmas.Bool.{and_parts, and_from, and_left, and_right, both_ways}
use Rattle.std.proofs.lemmas.List.Folds.{list_all_at}
use Rattle.std.proofs.lemmas.List.Elements.{All-nil, All-append}
use Rattle.std.specs.List.{All, list_all}
use Rattle.std.specs.Prelude.{IsTrue}
use Rattle.tells.specs.declared.tell.Lit.{Lit}
use Rattle.tells.specs.declared.tell.Tell.{Tell}
use Rattle.interval.specs.Limits.{IsNumber, bound_limit, ClampOrder}
use Rattle.interval.specs.Boxes.{Bounds, low_of, high_of, IsPoint}
use Rattle.tells.specs.Words.{when, low_tell, sign_tell, Keeps, literal_true, is_out, tell_true, IsProperIn, IsInsideIn, AgreeIn, SameValuesIn, AreVariables, value_of, point_of}
use Rattle.clause_tells.specs.Clause.{clause_vars, clause_tells, sole_tells, IsClause}
use Rattle.tell_laws.proofs.Lists.{All-left, All-right, All-one, one-All, All-when, when-All}
use Rattle.tell_laws.proofs.LiteralLaws.{out_inside}
use Rattle.tell_laws.proofs.LiteralLaws.{sign_kept, kept_sign, by_bool}
use Rattle.tell_laws.proofs.PlaceLaws.{IsPlaced, low_placed, sign_placed, same_out}
use Rattle.tell_laws.proofs.CommonLaws.{not_past_all, out_at_point, not_out, true_there, true_here}
use Rattle.clause_tells.proofs.ClauseTells.{length-clause, get_or-clause}

-- what holds of each place of the variables holds of each literal's variable
each_literal : (P : ℕ → Type 0) (lits : List Lit) → ((i : ℕ) → i < length (clause_vars lits) → P (get_or (clause_vars lits) i 0)) → All (λ l. P l.var) lits
each_literal P lits h i d l =
    let at : i < length (clause_vars lits) = omega (arith, length-clause lits (omega arith)) in
    subst P (get_or-clause lits i d l) (h i at)

-- ---- monotone

all_outside : (inner outer : Bounds) (ls : List Lit) → All (λ l. is_out l outer ≡ true → is_out l inner ≡ true) ls → list_all (λ l. is_out l outer) ls ≡ true → list_all (λ l. is_out l inner) ls ≡ true
all_outside inner outer [] follow e = refl
all_outside inner outer (l ∷ ls) follow e =
    let parts = and_parts (is_out l outer) (list_all (λ k. is_out k outer) ls) e in
    and_from (is_out l inner) (list_all (λ k. is_out k inner) ls) (follow 0 l (omega arith) parts.0) (all_outside inner outer ls (λ i d h. follow (suc i) d (omega arith)) parts.1)

sole_monotone : (inner outer : Bounds) (s t : Bool) (ls : List Lit) → (t ≡ true → s ≡ true) → All (λ l. is_out l outer ≡ true → is_out l inner ≡ true) ls
    → All (Keeps inner) (sole_tells s ls inner) → All (Keeps inner) (sole_tells t ls outer)
unfolding sole_tells
sole_monotone inner outer s t [] before follow all = All-nil (Keeps inner)
sole_monotone inner outer s t (l ∷ ls) before follow all =
    let P : Tell → Type 0 = Keeps inner in
    let here = s && list_all (λ k. is_out k inner) ls in
    let rest = sole_tells (s && is_out l inner) ls inner in
    let rest' = sole_tells (t && is_out l outer) ls outer in
    All-append P (when (t && list_all (λ k. is_out k outer) ls) (tell_true l ∷ [])) rest'
    (All-when P (t && list_all (λ k. is_out k outer) ls) (tell_true l ∷ []) (λ e.
    let parts = and_parts t (list_all (λ k. is_out k outer) ls) e in
    when-All P here (tell_true l ∷ []) (and_from s (list_all (λ k. is_out k inner) ls) (before parts.0) (all_outside inner outer ls (λ i d h. follow (suc i) d (omega arith)) parts.1))
    (All-left P (when here (tell_true l ∷ [])) rest all)))
    (sole_monotone inner outer (s && is_out l inner) (t && is_out l outer) ls
    (λ e. let parts = and_parts t (is_out l outer) e in and_from s (is_out l inner) (before parts.0) (follow 0 l (omega arith) parts.1))
    (λ i d h. follow (suc i) d (omega arith)) (All-right P (when here (tell_true l ∷ [])) rest all))

pub clause_monotone : (inner outer : Bounds) (lits : List Lit) → IsProperIn (clause_vars lits) inner → IsInsideIn (clause_vars lits) inner outer
    → All (Keeps inner) (clause_tells lits inner) → All (Keeps inner) (clause_tells lits outer)
unfolding clause_tells
clause_monotone inner outer [] proper inside all = all
clause_monotone inner outer (l ∷ ls) proper inside all =
    let lits = l ∷ ls in
    let lows = each_literal (λ v. low_of outer v ≤ℤ low_of inner v) lits inside.lows in
    let highs = each_literal (λ v. high_of inner v ≤ℤ high_of outer v) lits inside.highs in
    let own = each_literal (λ v. low_of inner v ≤ℤ high_of inner v) lits proper in
    sole_monotone inner outer true true lits (λ e. e) (λ i d h. out_inside inner outer (get_or lits i d) (lows i d h) (own i d h) (highs i d h)) all

-- ---- at a point

module _ (clamped : ClampOrder) (b : Bounds) where
  later : (l : Lit) (ls : List Lit) → IsClause ls (point_of b) → IsClause (l ∷ ls) (point_of b)
  later l ls (i, x, h, same, t) = (suc i, x, omega arith, same, t)

  some_true : (before : Bool) (l : Lit) (ls : List Lit) → before ≡ true → All (λ k. low_of b k.var ≡ high_of b k.var) (l ∷ ls)
      → All (Keeps b) (sole_tells before (l ∷ ls) b) → IsClause (l ∷ ls) (point_of b)
  unfolding sole_tells
  some_true before l [] e fixed all =
      let here = fixed 0 l (omega arith) in
      let told = when-All (Keeps b) (before && true) (tell_true l ∷ []) (and_from before true e refl) (All-left (Keeps b) (when (before && true) (tell_true l ∷ [])) [] all) in
      let kept = kept_sign clamped b l.positive l.var here (one-All (Keeps b) (tell_true l) told) in
      (0, l, omega arith, refl, true_there b l (sym kept))
  some_true before l (m ∷ ms) e fixed all =
      let here = fixed 0 l (omega arith) in
      by_bool (literal_true l (low_of b l.var))
      (λ t. (0, l, omega arith, refl, true_there b l t))
      (λ f.
      let out = out_at_point b l here f in
      let more : IsClause (m ∷ ms) (point_of b) = some_true (before && is_out l b) m ms (and_from before (is_out l b) e out) (λ i d h. fixed (suc i) d (omega arith))
      (All-right (Keeps b) (when (before && list_all (λ k. is_out k b) (m ∷ ms)) (tell_true l ∷ [])) (sole_tells (before && is_out l b) (m ∷ ms) b) all) in
      later l (m ∷ ms) more)

  pub clause_closed_holds : (lits : List Lit) → AreVariables (length b) (clause_vars lits) → IsPoint b → ((v : ℕ) → v < length b → IsNumber (low_of b v))
      → All (Keeps b) (clause_tells lits b) → IsClause lits (point_of b)
  unfolding clause_tells clause_vars
  clause_closed_holds [] variables point numbers all = absurd (not_past_all clamped b 0 (numbers 0 (variables.each 0 (omega arith))) (one-All (Keeps b) (low_tell 0 (pos bound_limit)) all))
  clause_closed_holds (l ∷ ls) variables point numbers all =
      some_true true l ls refl (each_literal (λ v. low_of b v ≡ high_of b v) (l ∷ ls) (λ i h. point _ (variables.each i h))) all

  none_told : (before : Bool) (ls : List Lit) → before ≡ false → All (Keeps b) (sole_tells before ls b)
  unfolding sole_tells
  none_told before [] e = All-nil (Keeps b)
  none_told before (l ∷ ls) e =
      All-append (Keeps b) (when (before && list_all (λ k. is_out k b) ls) (tell_true l ∷ [])) (sole_tells (before && is_out l b) ls b)
      (All-when (Keeps b) (before && list_all (λ k. is_out k b) ls) (tell_true l ∷ []) (λ t. absurd (both_ways before e (and_parts before (list_all (λ k. is_out k b) ls) t).0)))
      (none_told (before && is_out l b) ls (and_left before (is_out l b) e))

  true_told : (before : Bool) (ls : List Lit) (i : ℕ) (x : Lit) → i < length ls → get_or ls i x ≡ x → literal_true x (low_of b x.var) ≡ true
      → All (λ k. low_of b k.var ≡ high_of b k.var) ls → All (Keeps b) (sole_tells before ls b)
  unfolding sole_tells
  true_told before [] i x h e t fixed = absurd (omega arith)
  true_told before (l ∷ ls) zero x h e t fixed =
      let T : Lit → Type 0 = λ k. literal_true k (low_of b k.var) ≡ true in
      let own : T l = subst T (sym e) t in
      All-append (Keeps b) (when (before && list_all (λ k. is_out k b) ls) (tell_true l ∷ [])) (sole_tells (before && is_out l b) ls b)
      (All-when (Keeps b) (before && list_all (λ k. is_out k b) ls) (tell_true l ∷ []) (λ u. All-one (Keeps b) (tell_true l) (sign_kept clamped b l.positive l.var (fixed 0 l (omega arith)) own)))
      (none_told (before && is_out l b) ls (and_right before (is_out l b) (not_out b l own)))
  true_told before (l ∷ ls) (suc i) x h e t fixed =
      let T : Lit → Type 0 = λ k. literal_true k (low_of b k.var) ≡ true in
      let one = list_all_at (λ k. is_out k b) ls i x (omega arith) (not_out b (get_or ls i x) (subst T (sym e) t)) in
      All-append (Keeps b) (when (before && list_all (λ k. is_out k b) ls) (tell_true l ∷ [])) (sole_tells (before && is_out l b) ls b)
      (All-when (Keeps b) (before && list_all (λ k. is_out k b) ls) (tell_true l ∷ []) (λ u. absurd (both_ways (list_all (λ k. is_out k b) ls) one (and_parts before (list_all (λ k. is_out k b) ls) u).1)))
      (true_told (before && is_out l b) ls i x (omega arith) e t (λ i d h. fixed (suc i) d (omega arith)))

  pub clause_holds_closed : (lits : List Lit) → AreVariables (length b) (clause_vars lits) → IsPoint b → IsClause lits (point_of b) → All (Keeps b) (clause_tells lits b)
  unfolding clause_tells
  clause_holds_closed [] variables point (i, x, h, same, t) = absurd (omega arith)
  clause_holds_closed (l ∷ ls) variables point (i, x, h, same, t) =
      true_told true (l ∷ ls) i x h same (true_here b x t) (each_literal (λ v. low_of b v ≡ high_of b v) (l ∷ ls) (λ i h. point _ (variables.each i h)))

-- ---- where the tells are

sole_placed : (P : Tell → Type 0) (b : Bounds) (before : Bool) (ls : List Lit) → All (λ l. P (tell_true l)) ls → All P (sole_tells before ls b)
unfolding sole_tells
sole_placed P b before [] each = All-nil P
sole_placed P b before (l ∷ ls) each =
    All-append P (when (before && list_all (λ k. is_out k b) ls) (tell_true l ∷ [])) (sole_tells (before && is_out l b) ls b)
    (All-when P (before && list_all (λ k. is_out k b) ls) (tell_true l ∷ []) (λ e. All-one P (tell_true l) (each 0 l (omega arith))))
    (sole_placed P b (before && is_out l b) ls (λ i d h. each (suc i) d (omega arith)))

pub clause_placed : ClampOrder → (count : ℕ) (lits : List Lit) (b : Bounds) → AreVariables count (clause_vars lits) → All (IsPlaced count (clause_vars lits)) (clause_tells lits b)
unfolding clause_tells clause_vars
clause_placed clamped count [] b variables = All-one (IsPlaced count (0 ∷ [])) (low_tell 0 (pos bound_limit)) (low_placed clamped count (0 ∷ []) variables 0 (pos bound_limit) (omega arith))
clause_placed clamped count (l ∷ ls) b variables =
    let vars = clause_vars (l ∷ ls) in
    let each = each_literal (λ v. (s : Bool) → IsPlaced count vars (sign_tell s v)) (l ∷ ls) (λ i h. λ s. sign_placed clamped count vars variables s i h) in
    sole_placed (IsPlaced count vars) b true (l ∷ ls) (λ i d h. each i d h (get_or (l ∷ ls) i d).positive)

-- ---- the variables alone

all_same : (b c : Bounds) (ls : List Lit) → All (λ l. is_out l b ≡ is_out l c) ls → list_all (λ l. is_out l b) ls ≡ list_all (λ l. is_out l c) ls
all_same b c [] same = refl
all_same b c (l ∷ ls) same =
    let first = same 0 l (omega arith) in
    let rest = all_same b c ls (λ i d h. same (suc i) d (omega arith)) in
    (λ i. first i && rest i)

sole_local : (b c : Bounds) (s t : Bool) (ls : List Lit) → s ≡ t → All (λ l. is_out l b ≡ is_out l c) ls → sole_tells s ls b ≡ sole_tells t ls c
unfolding sole_tells
sole_local b c s t [] e same = refl
sole_local b c s t (l ∷ ls) e same =
    let first = same 0 l (omega arith) in
    let all = all_same b c ls (λ i d h. same (suc i) d (omega arith)) in
    let rest = sole_local b c (s && is_out l b) (t && is_out l c) ls (λ i. e i && first i) (λ i d h. same (suc i) d (omega arith)) in
    (λ i. when (e i && all i) (tell_true l ∷ []) ++ rest i)

pub clause_local : (lits : List Lit) (b c : Bounds) → AgreeIn (clause_vars lits) b c → clause_tells lits b ≡ clause_tells lits c
unfolding clause_tells
clause_local [] b c agree = refl
clause_local (l ∷ ls) b c agree =
    let lits = l ∷ ls in
    let lows = each_literal (λ v. low_of b v ≡ low_of c v) lits agree.lows in
    let highs = each_literal (λ v. high_of b v ≡ high_of c v) lits agree.highs in
    sole_local b c true true lits refl (λ i d h. same_out (get_or lits i d) b c (lows i d h) (highs i d h))

pub clause_local_relation : (lits : List Lit) (f g : List ℤ) → SameValuesIn (clause_vars lits) f g → IsClause lits f → IsClause lits g
clause_local_relation lits f g same (i, x, h, e, t) =
    let values = each_literal (λ v. value_of f v ≡ value_of g v) lits same in
    let V : Lit → Type 0 = λ l. value_of f l.var ≡ value_of g l.var in
    let T : ℤ → Type 0 = λ z. IsTrue (literal_true x z) in
    (i, x, h, e, subst T (subst V e (values i x h)) t)
