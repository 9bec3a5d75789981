-- What holds of each drop, and when there is none.
use Rattle.std.proofs.Common.{◌≡◌, ℕ, zero, suc, Bool, true, false, cond, List, [], ◌∷◌, ◌++◌, length, map, slice_index_or, ℤ, ◌≤ℤ◌, refl, sym, ap, ◌∙◌, subst, arith}
use Rattle.std.specs.Prelude.{◌↔◌, slice_index}
use Rattle.std.proofs.lemmas.Bool.{true≢false}
use Rattle.std.proofs.lemmas.List.{length-append, get_or_default}
use Rattle.std.proofs.lemmas.List.Elements.{All-nil, All-append, All-map, All-filter, All-contains_itself, filter_passes}
use Rattle.std.specs.List.{All, AllZip, Contains, filter, flat_map}
use Rattle.interval.specs.Boxes.{low_of, high_of}
use Rattle.guarded_tell.specs.Words.{AreVariables, IsProperIn}
use Rattle.bit_domain.specs.declared.dom.Dom.{Dom}
use Rattle.bit_domain.specs.declared.dom.Dom.TheVariants.{Bits, Pair}
use Rattle.bit_domain.specs.Mixes.{Mix, dom_of, hull, values_of, Has, IsBits, IsDomInRange, IsInsideDom, IsMixInRange}
use Rattle.domain_drops.specs.Hearing.{Drop}
use Rattle.domain_drops.specs.Removals.{Removal}
use Rattle.domain_drops.specs.Drops.{dropped, IsInsideMixIn}
use Rattle.domain_drops.proofs.ProductLaws.{by_bool}
use Rattle.domain_drops.proofs.HullLaws.{Domains, proper_at}

abbrev pub Listed : Type 0
Listed = (d : Dom) (z : ℤ) → IsDomInRange d → Contains (values_of d) z ↔ (IsBits d × Has d z)

-- ---- lists without an element

no_first : {X : Type 0} (xs ys : List X) → xs ++ ys ≡ [] → xs ≡ []
no_first [] ys e = refl
no_first (x ∷ xs) ys e = absurd (let l = ap length e in omega (arith, length-append xs ys))

no_second : {X : Type 0} (xs ys : List X) → xs ++ ys ≡ [] → ys ≡ []
no_second [] ys e = e
no_second (x ∷ xs) ys e = absurd (let l = ap length e in omega (arith, length-append xs ys))

not_mapped : {X Y : Type 0} (f : X → Y) (xs : List X) → map f xs ≡ [] → xs ≡ []
not_mapped f [] e = refl
not_mapped f (x ∷ xs) e = absurd (let l = ap length e in omega arith)

-- where nothing passes, no element does
pub passes_none : {X : Type 0} (p : X → Bool) (xs : List X) (x : X) → filter p xs ≡ [] → Contains xs x → p x ≡ false
passes_none p [] x e (k, l, f) = absurd (omega arith)
passes_none p (y ∷ ys) x e (zero, l, f) = by_bool (p y)
    (λ (t : p y ≡ true). absurd (let n = ap length (sym (ap (λ (b : Bool). cond b (y ∷ filter p ys) (filter p ys)) t) ∙ e) in omega arith))
    (λ (t : p y ≡ false). subst (λ z. p z ≡ false) f t)
passes_none p (y ∷ ys) x e (suc k, l, f) = by_bool (p y)
    (λ (t : p y ≡ true). absurd (let n = ap length (sym (ap (λ (b : Bool). cond b (y ∷ filter p ys) (filter p ys)) t) ∙ e) in omega arith))
    (λ (t : p y ≡ false). passes_none p ys x (sym (ap (λ (b : Bool). cond b (y ∷ filter p ys) (filter p ys)) t) ∙ e) (k, omega arith, f))

-- ---- what holds of each drop of a removal

pub dropped_all : (P : Drop → Type 0) (m : Mix) (r : Removal) → ((z : ℤ) → Contains (values_of (dom_of m r.var)) z → r.test z ≡ true → P (r.var, z)) → All P (dropped m r)
dropped_all P m r h =
    let values = values_of (dom_of m r.var) in
    let held : All (Contains values) (filter r.test values) = All-filter r.test (Contains values) values (All-contains_itself values) in
    let passed : All (λ z. r.test z ≡ true) (filter r.test values) = filter_passes r.test values in
    let each : All (λ z. P (r.var, z)) (filter r.test values) = (λ k d l. h (slice_index_or (filter r.test values) k d) (held k d l) (passed k d l)) in
    All-map P (λ z. (r.var, z)) (filter r.test values) each

pub drops_all : (P : Drop → Type 0) (m : Mix) (rs : List Removal) → All (λ r. All P (dropped m r)) rs → All P (flat_map (dropped m) rs)
drops_all P m [] all = All-nil P
drops_all P m (r ∷ rs) all = All-append P (dropped m r) (flat_map (dropped m) rs) (all 0 r (omega arith)) (drops_all P m rs (λ k d l. all (suc k) d (omega arith)))

-- where a removal drops nothing, no number that its variable has passes its test
pub test_fails : (m : Mix) (r : Removal) (z : ℤ) → dropped m r ≡ [] → Contains (values_of (dom_of m r.var)) z → r.test z ≡ false
test_fails m r z e held = passes_none r.test (values_of (dom_of m r.var)) z (not_mapped (λ z. (r.var, z)) (filter r.test (values_of (dom_of m r.var))) e) held

pub nothing_dropped : (m : Mix) (r : Removal) → ((z : ℤ) → Contains (values_of (dom_of m r.var)) z → r.test z ≡ false) → dropped m r ≡ []
nothing_dropped m r h = ap (map (λ z. (r.var, z))) (none r.test (values_of (dom_of m r.var)) h)
  where
    none : {X : Type 0} (p : X → Bool) (xs : List X) → ((x : X) → Contains xs x → p x ≡ false) → filter p xs ≡ []
    none p [] all = refl
    none p (x ∷ xs) all =
        let here = all x (0, omega arith, refl) in
        let rest = none p xs (λ y (k, l, f). all y (suc k, omega arith, f)) in
        (λ i. cond (here i) (x ∷ filter p xs) (filter p xs)) ∙ rest

-- ---- removals on a box and on one inside

-- the one removes on the same variable what the other removes, and maybe more
pub record Follows (r s : Removal) : Type 0 where
  pub same : r.var ≡ s.var
  pub passes : (z : ℤ) → r.test z ≡ true → s.test z ≡ true

bits_inside : (inner outer : Dom) → IsInsideDom inner outer → IsBits outer → IsBits inner
bits_inside (Bits b s) outer inside bits = tt
bits_inside (Pair a b) (Bits c t) inside bits = absurd inside
bits_inside (Pair a b) (Pair c d) inside bits = bits

module _ (o : Domains) (listed : Listed) (vars : List ℕ) (outer inner : Mix) (variables : AreVariables (length outer) vars) (range : IsMixInRange outer) (proper : IsProperIn vars (hull inner)) (inside : IsInsideMixIn vars inner outer) where
  abbrev Keeps : Drop → Type 0
  Keeps d = ¬ Has (dom_of inner d.0) d.1

  kept_by : (r s : Removal) → Contains vars r.var → Follows r s → dropped inner s ≡ [] → All Keeps (dropped outer r)
  kept_by r s (i, l, at) follows none = dropped_all Keeps outer r (λ z held passed has.
      let place : slice_index vars i ≡ r.var = get_or_default vars i 0 r.var l ∙ at in
      let D : ℕ → Type 0 = λ v. IsInsideDom (dom_of inner v) (dom_of outer v) in
      let E : ℕ → Type 0 = λ v. IsDomInRange (dom_of outer v) in
      let F : ℕ → Type 0 = λ v. low_of (hull inner) v ≤ℤ high_of (hull inner) v in
      let own = subst D place (inside.doms i l) in
      let far = subst E place (range.doms (slice_index vars i) (variables.each i l)) in
      let some = proper_at inner r.var (subst F place (proper i l)) in
      let bits = ((listed (dom_of outer r.var) z far).0 held).0 in
      let near = o.in_range (dom_of inner r.var) (dom_of outer r.var) far own some in
      let listed_inner : Contains (values_of (dom_of inner r.var)) z = (listed (dom_of inner r.var) z near).1 (bits_inside (dom_of inner r.var) (dom_of outer r.var) own bits, has) in
      let fails : s.test z ≡ false = test_fails inner s z none (subst (λ (v : ℕ). Contains (values_of (dom_of inner v)) z) follows.same listed_inner) in
      true≢false (sym (follows.passes z passed) ∙ fails))

  pub kept_by_all : (rs ss : List Removal) → AllZip Follows rs ss → All (λ r. Contains vars r.var) rs → flat_map (dropped inner) ss ≡ [] → All Keeps (flat_map (dropped outer) rs)
  kept_by_all [] [] follow named none = All-nil Keeps
  kept_by_all [] (s ∷ ss) follow named none = absurd follow
  kept_by_all (r ∷ rs) [] follow named none = absurd follow
  kept_by_all (r ∷ rs) (s ∷ ss) follow named none =
      All-append Keeps (dropped outer r) (flat_map (dropped outer) rs)
      (kept_by r s (named 0 r (omega arith)) follow.0 (no_first (dropped inner s) (flat_map (dropped inner) ss) none))
      (kept_by_all rs ss follow.1 (λ k d l. named (suc k) d (omega arith)) (no_second (dropped inner s) (flat_map (dropped inner) ss) none))

pub nothing_dropped_of : (m : Mix) (rs : List Removal) → All (λ r. dropped m r ≡ []) rs → flat_map (dropped m) rs ≡ []
nothing_dropped_of m [] all = refl
nothing_dropped_of m (r ∷ rs) all =
    let first = all 0 r (omega arith) in
    let rest = nothing_dropped_of m rs (λ k d l. all (suc k) d (omega arith)) in
    (λ i. first i ++ rest i)
