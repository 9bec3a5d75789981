-- The kinds of step: what each may do under the rule.
use Rattle.std.proofs.Common.{ℕ, ◌≡◌, ◌≢◌, ◌⊎◌, ◌<◌, ◌≤◌, max, eq-eqb, List, length, set, Bool, true, false, true≢false, inl, inr, ⊎_elim, refl, sym, ap, ◌∙◌, subst, le_refl, le_trans, arith, length-set, get_or-set_other}
use Rattle.std.specs.Prelude.{slice_index, ◌==◌}
use mathlib.Core.Option.{some, some-injective, some-ne-none}
use mathlib.Core.Option as maybe
use mathlib.Core.Logic.{dite}
use native.Mathlib.Decide.{ℕ_discrete}
use lib.ListN.{get_elem?}
use Rattle.std.proofs.lemmas.Grind.{get_or-set_at}
use Rattle.atomic_table.specs.Table.{Me, keeps, Allows, step}
use Rattle.lattice_store.specs.declared.table.View.{View}
use Rattle.lattice_store.specs.Words.{epoch_of, code_of, IsCode, ceiling}
use Rattle.lattice_store.specs.Rule.{Sees, Agree, Lawful, Keeps, seen_after, past_after, noted, Notes, asked, told}
use Rattle.lattice_store.specs.Steps.{MayTell, IsReady}
use Rattle.lattice_store.proofs.WordLaws.{rises, max_is}
use Rattle.lattice_store.proofs.Moves.{stepped, raised}

pub off : false ≡ true → ⊥
off e = true≢false (sym e)

pub both_ways : (b : Bool) → b ≡ false → b ≡ true → ⊥
both_ways b f t = true≢false (sym t ∙ f)

pub eqb_means : (a b : ℕ) → (a == b) ≡ true → a ≡ b
eqb_means a b e = grind arith

pub eqb_not : (a b : ℕ) → (a == b) ≡ false → a ≢ b
eqb_not a b e h = true≢false (sym (eq-eqb a b h) ∙ e)

pub length-seen_after : (p b : Bool) (s : List ℕ) (k n : ℕ) → length (seen_after p b s k n) ≡ length s
length-seen_after true b s k n = refl
length-seen_after false true s k n = length-set s k n
length-seen_after false false s k n = refl

-- away from k nothing new is seen
pub seen_else : (p b : Bool) (s : List ℕ) (k n j : ℕ) → j ≢ k → slice_index (seen_after p b s k n) j ≡ slice_index s j
seen_else true b s k n j ne = refl
seen_else false true s k n j ne = get_or-set_other s k j n 0 ne
seen_else false false s k n j ne = refl

-- at k it is n, of the own epoch, or nothing new
pub seen_here : (p b : Bool) (s : List ℕ) (k n : ℕ) → k < length s → (slice_index (seen_after p b s k n) k ≡ slice_index s k) ⊎ ((b ≡ true) × (slice_index (seen_after p b s k n) k ≡ n))
seen_here true b s k n h = inl refl
seen_here false true s k n h = inr (refl, get_or-set_at s k k n 0 refl h)
seen_here false false s k n h = inl refl

pub past_how : (p b : Bool) → past_after p b ≡ true → (p ≡ true) ⊎ (b ≡ false)
past_how true b e = inl refl
past_how false true e = absurd (off e)
past_how false false e = inr refl

-- the view after it has seen that the word k is m, which holds its floor
noted_sees : (v : View) (k m n p : ℕ) → IsReady v → k < length v.seen → p < length v.seen → Sees n v p → (p ≡ k → slice_index v.seen k ≤ m) → (p ≡ k → n ≡ m) → (p ≡ k → epoch_of m ≡ v.epoch → code_of m ≤ ceiling v.floor k) → (p ≡ k → v.first ≡ true → epoch_of m ≤ v.epoch) → Sees n (noted v k m) p
noted_sees v k m n p ready inside lt s le now held newest =
    dite (ℕ_discrete p k)
    (λ (e : p ≡ k).
    ⊎_elim
    (λ (same : slice_index (seen_after v.past (epoch_of m == v.epoch) v.seen k m) k ≡ slice_index v.seen k). of_same (subst (λ (x : ℕ). slice_index (seen_after v.past (epoch_of m == v.epoch) v.seen k m) x ≡ slice_index v.seen x) (sym e) same))
    (λ (t : ((epoch_of m == v.epoch) ≡ true) × (slice_index (seen_after v.past (epoch_of m == v.epoch) v.seen k m) k ≡ m)). subst (λ (x : ℕ). Sees n (noted v k m) x) (sym e) (of_new e (eqb_means (epoch_of m) v.epoch t.0) t.1))
    (seen_here v.past (epoch_of m == v.epoch) v.seen k m inside))
    (λ (ne : p ≢ k). of_same (seen_else v.past (epoch_of m == v.epoch) v.seen k m p ne))
  where
    of_same : slice_index (seen_after v.past (epoch_of m == v.epoch) v.seen k m) p ≡ slice_index v.seen p → Sees n (noted v k m) p
    of_same same = record {
      at_most = let z = s.at_most in omega arith;
      held = s.held;
      newest = s.newest;
      unopened = s.unopened;
      own = λ h. let o = s.own h in (ap epoch_of same ∙ o.0, subst (λ (x : ℕ). code_of x ≤ ceiling v.floor p) (sym same) o.1);
      as_made = λ f. absurd (both_ways v.fresh ready.fresh f);
    }

    of_new : p ≡ k → epoch_of m ≡ v.epoch → slice_index (seen_after v.past (epoch_of m == v.epoch) v.seen k m) k ≡ m → Sees n (noted v k m) k
    of_new e own here = record {
      at_most = let z = now e in omega arith;
      held = λ h. subst (λ (x : ℕ). code_of x ≤ ceiling v.floor k) (sym (now e)) (held e own);
      newest = λ f. subst (λ (x : ℕ). epoch_of x ≤ v.epoch) (sym (now e)) (newest e f);
      unopened = λ f h. let z = ready.opened in absurd (omega arith);
      own = λ h. (ap epoch_of here ∙ own, subst (λ (x : ℕ). code_of x ≤ ceiling v.floor k) (sym here) (held e own));
      as_made = λ f. absurd (both_ways v.fresh ready.fresh f);
    }

noted_pairs : (id j m k : ℕ) (v u : View) → IsReady v → Agree id j v u → Agree j id u v → (epoch_of m ≢ v.epoch → v.epoch < epoch_of m) → (u.first ≡ true → epoch_of m ≤ u.epoch) → Agree id j (noted v k m) u × Agree j id u (noted v k m)
noted_pairs id j m k v u ready vu uv newer bound = (
  record {
    one_floor = vu.one_floor;
    ahead = vu.ahead;
    one_first = vu.one_first;
    opening = λ f h ne. let z = ready.opened in let y = length-seen_after v.past (epoch_of m == v.epoch) v.seen k m in absurd (omega arith);
    behind = vu.behind;
    alone = vu.alone;
  },
  record {
    one_floor = uv.one_floor;
    ahead = uv.ahead;
    one_first = uv.one_first;
    opening = uv.opening;
    behind = λ f p. ⊎_elim
        (λ (old : v.past ≡ true). uv.behind f old)
        (λ (b : (epoch_of m == v.epoch) ≡ false). let x = newer (eqb_not (epoch_of m) v.epoch b) in let y = bound f in omega arith)
        (past_how v.past (epoch_of m == v.epoch) p);
    alone = uv.alone;
  },
)

-- the view of itself: were it first and now past, the word would be of a later epoch
noted_self : (id m k : ℕ) (v : View) → IsReady v → Agree id id v v → (epoch_of m ≢ v.epoch → v.epoch < epoch_of m) → (v.first ≡ true → epoch_of m ≤ v.epoch) → Agree id id (noted v k m) (noted v k m)
noted_self id m k v ready vv newer bound = record {
  one_floor = λ _. refl;
  ahead = λ f. le_refl v.epoch;
  one_first = λ _ _. refl;
  opening = λ f h ne. absurd (ne refl);
  behind = λ f p. ⊎_elim
      (λ (old : v.past ≡ true). vv.behind f old)
      (λ (b : (epoch_of m == v.epoch) ≡ false). let x = newer (eqb_not (epoch_of m) v.epoch b) in let y = bound f in omega arith)
      (past_how v.past (epoch_of m == v.epoch) p);
  alone = λ _. refl;
}

-- a word that is copied, or raised to one of the view's epoch that holds its floor
pub record MayBe (v : View) (k n m : ℕ) : Type 0 where
  pub grows : n ≤ m
  pub how : (m ≡ n) ⊎ (IsCode m × (epoch_of m ≡ v.epoch) × (code_of m ≤ ceiling v.floor k))

sees_raised : (v : View) (k p n m : ℕ) → IsReady v → p ≡ k → k < length v.seen → Sees n v p → slice_index v.seen k ≤ m → (epoch_of m ≡ v.epoch → code_of m ≤ ceiling v.floor k) → (v.first ≡ true → epoch_of m ≤ v.epoch) → Sees m v p
sees_raised v k p n m ready e inside s le held newest = record {
  at_most = subst (λ (x : ℕ). slice_index v.seen x ≤ m) (sym e) le;
  held = subst (λ (x : ℕ). epoch_of m ≡ v.epoch → code_of m ≤ ceiling v.floor x) (sym e) held;
  newest = newest;
  unopened = λ f h. let z = ready.opened in absurd (omega arith);
  own = s.own;
  as_made = λ f. absurd (both_ways v.fresh ready.fresh f);
}

noting : (ws : List ℕ) (vs : List View) (id k m : ℕ) (v : View) → Lawful ws vs → get_elem? vs id ≡ some v → IsReady v → 1 ≤ k → k < length ws → MayBe v k (slice_index ws k) m
    → Lawful (set ws k m) (set vs id (noted v k m)) × Notes v k m (noted v k m)
noting ws vs id k m v law at ready one inside may =
    let mine = law.sees id v at ready.live in
    let here = mine k one inside in
    let same_length = law.lengths id v at ready.live in
    let grows = may.grows in
    let held : epoch_of m ≡ v.epoch → code_of m ≤ ceiling v.floor k = ⊎_elim (λ (e : m ≡ slice_index ws k). subst (λ (x : ℕ). epoch_of x ≡ v.epoch → code_of x ≤ ceiling v.floor k) (sym e) here.held) (λ (t : IsCode m × (epoch_of m ≡ v.epoch) × (code_of m ≤ ceiling v.floor k)). λ _. t.2) may.how in
    let newest : v.first ≡ true → epoch_of m ≤ v.epoch = ⊎_elim (λ (e : m ≡ slice_index ws k). subst (λ (x : ℕ). v.first ≡ true → epoch_of x ≤ v.epoch) (sym e) here.newest) (λ (t : IsCode m × (epoch_of m ≡ v.epoch) × (code_of m ≤ ceiling v.floor k)). λ _. let z = t.1 in omega arith) may.how in
    let code : IsCode m = ⊎_elim (λ (e : m ≡ slice_index ws k). subst IsCode (sym e) (law.codes k one inside)) (λ (t : IsCode m × (epoch_of m ≡ v.epoch) × (code_of m ≤ ceiling v.floor k)). t.0) may.how in
    let seen_le : slice_index v.seen k ≤ m = le_trans here.at_most grows in
    let newer : epoch_of m ≢ v.epoch → v.epoch < epoch_of m = λ ne. let o = (here.own (let z = ready.opened in omega arith)).0 in let r = rises (slice_index v.seen k) m seen_le in omega arith in
    let how : (m ≡ slice_index ws k) ⊎ ((epoch_of m ≡ v.epoch) × (code_of m ≤ ceiling v.floor k)) = ⊎_elim (λ (e : m ≡ slice_index ws k). inl e) (λ (t : IsCode m × (epoch_of m ≡ v.epoch) × (code_of m ≤ ceiling v.floor k)). inr (t.1, t.2)) may.how in
    let others = λ (j : ℕ) (u : View) (ne : j ≢ id) (e : get_elem? vs j ≡ some u) (l : u.live ≡ true).
    raised id j (slice_index ws k) m k v u ne (let z = law.lengths j u e l in omega arith) grows how (law.agree id j v u at e ready.live l) (law.agree j id u v e at l ready.live) (law.sees j u e l k one inside) in (
      stepped ws vs id (noted v k m) k m law record {
        code = λ _. code;
        others = λ j u ne e l _ _. others j u ne e l;
        length_is = λ _. length-seen_after v.past (epoch_of m == v.epoch) v.seen k m ∙ same_length;
        opened_is = λ _ f. law.opened_all id v at ready.live f;
        mine = λ _ p op ip. noted_word p op ip held newest seen_le (mine p op ip) same_length;
        pairs = λ j u ne e l _. noted_pairs id j m k v u ready (law.agree id j v u at e ready.live l) (law.agree j id u v e at l ready.live) newer (λ f. (others j u ne e l).newest f);
        alone = λ _. noted_self id m k v ready (law.agree id id v v at at ready.live ready.live) newer newest;
      },
      record { view = refl; code = code; later = seen_le; held = held; newest = newest },
    )
  where
    noted_word : (p : ℕ) → 1 ≤ p → p < length ws → (epoch_of m ≡ v.epoch → code_of m ≤ ceiling v.floor k) → (v.first ≡ true → epoch_of m ≤ v.epoch) → slice_index v.seen k ≤ m → Sees (slice_index ws p) v p → length v.seen ≡ length ws → Sees (slice_index (set ws k m) p) (noted v k m) p
    noted_word p op ip held newest le s same = dite (ℕ_discrete p k)
        (λ (e : p ≡ k). noted_sees v k m (slice_index (set ws k m) p) p ready (omega arith) (omega arith) (subst (λ (x : ℕ). Sees x v p) (sym (get_or-set_at ws k p m 0 e inside)) (sees_raised v k p (slice_index ws p) m ready e (omega arith) s le held newest)) (λ _. le) (λ _. get_or-set_at ws k p m 0 e inside) (λ _. held) (λ _. newest))
        (λ (ne : p ≢ k). noted_sees v k m (slice_index (set ws k m) p) p ready (omega arith) (omega arith) (subst (λ (x : ℕ). Sees x v p) (sym (get_or-set_other ws k p m 0 ne)) s) (λ e. absurd (ne e)) (λ e. absurd (ne e)) (λ e. absurd (ne e)) (λ e. absurd (ne e)))

pub asks : (slots id k : ℕ) (me : Me ℕ View) → IsReady me.0 → 1 ≤ k → k < length me.0.seen → Allows Keeps slots id me k (λ n. n) (asked (step slots k 0 0 maybe.none) me)
asks slots id k me ready one inside s law homes at fits =
    let same = law.lengths id me.0 at ready.live in
    let n = slice_index s.words k in
    let r = noting s.words s.views id k n me.0 law at ready one (omega arith) record { grows = le_refl n; how = inl refl } in
    (noted me.0 k n, keeps, tt, r.0, (refl, r.1))

pub tells : (slots id k m : ℕ) (me : Me ℕ View) → IsReady me.0 → 1 ≤ k → k < length me.0.seen → MayTell me.0 k m → Allows Keeps slots id me k (λ n. max n m) (told (step slots k m 0 maybe.none) me)
tells slots id k m me ready one inside may s law homes at fits =
    let same = law.lengths id me.0 at ready.live in
    let n = slice_index s.words k in
    let r = noting s.words s.views id k (max n m) me.0 law at ready one (omega arith) (how n) in
    (noted me.0 k (max n m), keeps, tt, r.0, (refl, r.1))
  where
    how : (n : ℕ) → MayBe me.0 k n (max n m)
    how n = record {
      grows = omega arith;
      how = ⊎_elim (λ (t : (max n m ≡ n) × (m ≤ n)). inl t.0) (λ (t : (max n m ≡ m) × (n ≤ m)). inr (subst (λ (x : ℕ). IsCode x × (epoch_of x ≡ me.0.epoch) × (code_of x ≤ ceiling me.0.floor k)) (sym t.0) (may.code, may.epoch, may.held))) (max_is n m);
    }
