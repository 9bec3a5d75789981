-- The split and the join of seats keep the rule.
use Rattle.std.proofs.Common.{ℕ, zero, suc, ◌≡◌, ◌≢◌, ◌⊎◌, ◌<◌, ◌≤◌, max, List, [], ◌∷◌, ◌++◌, length, set, Bool, true, false, inl, inr, ⊎_elim, refl, sym, ap, ◌∙◌, subst, le_refl, arith}
use Rattle.std.specs.Prelude.{slice_index, Option}
use Rattle.std.proofs.lemmas.List.{set-get_or}
use mathlib.Core.Option.{some, some-injective}
use lib.ListN.{get_elem?}
use Rattle.atomic_table.specs.Table.{Splits, Joins}
use Rattle.atomic_table.proofs.Lists.{at_set, at_snoc, set_again}
use Rattle.interval.specs.Boxes.{Bounds}
use Rattle.lattice_store.specs.declared.table.View.{View}
use Rattle.lattice_store.specs.Words.{epoch_of, code_of, ceiling}
use Rattle.lattice_store.specs.Rule.{Sees, Agree, Lawful, Keeps, not_first, greater, either, merged, spent_view}
use Rattle.lattice_store.proofs.WordLaws.{max_is}
use Rattle.lattice_store.proofs.Moves.{stepped}
use Rattle.lattice_store.specs.Steps.{IsReady}
use Rattle.lattice_store.proofs.Telling.{off, both_ways}

same_view : (views : List View) (j : ℕ) (u v : View) → get_elem? views j ≡ some u → get_elem? views j ≡ some v → u ≡ v
same_view views j u v a b = some-injective u v (sym a ∙ b)

copied : (words : List ℕ) (views : List View) (id : ℕ) (v : View) → Lawful words views → get_elem? views id ≡ some v → IsReady v → Lawful words (views ++ not_first v ∷ [])
copied words views id v law at ready = record {
  codes = law.codes;
  lengths = λ j u e l. ⊎_elim (λ was. law.lengths j u was l) (λ (f : not_first v ≡ u). subst (λ (x : View). length x.seen ≡ length words) f (law.lengths id v at ready.live)) (at_snoc views (not_first v) u j e);
  opened_all = λ j u e l f. ⊎_elim (λ was. law.opened_all j u was l f) (λ (g : not_first v ≡ u). subst (λ (x : View). x.opened ≡ length words) g (ready.opened ∙ law.lengths id v at ready.live)) (at_snoc views (not_first v) u j e);
  sees = λ j u e l k one lt. ⊎_elim (λ was. law.sees j u was l k one lt) (λ (f : not_first v ≡ u). subst (λ (x : View). Sees (slice_index words k) x k) f (new_sees k (law.sees id v at ready.live k one lt))) (at_snoc views (not_first v) u j e);
  agree = λ i j u w ei ej lu lw.
      ⊎_elim
      (λ oi. ⊎_elim
      (λ oj. law.agree i j u w oi oj lu lw)
      (λ (f : not_first v ≡ w). subst (λ (x : View). Agree i j u x) f (old_new i j u oi lu (law.agree i id u v oi at lu ready.live)))
      (at_snoc views (not_first v) w j ej))
      (λ (f : not_first v ≡ u). subst (λ (x : View). Agree i j x w) f
      (⊎_elim
      (λ oj. new_one i j w (law.agree id j v w at oj ready.live lw).one_floor)
      (λ (g : not_first v ≡ w). subst (λ (x : View). Agree i j (not_first v) x) g (new_one i j (not_first v) (λ _. refl)))
      (at_snoc views (not_first v) w j ej)))
      (at_snoc views (not_first v) u i ei);
}
  where
    new_sees : (k : ℕ) → Sees (slice_index words k) v k → Sees (slice_index words k) (not_first v) k
    new_sees k s = record { at_most = s.at_most; held = s.held; newest = λ f. absurd (off f); unopened = λ f _. absurd (off f); own = s.own; as_made = s.as_made }

    new_one : (i j : ℕ) (w : View) → (v.epoch ≡ w.epoch → v.floor ≡ w.floor) → Agree i j (not_first v) w
    new_one i j w floor = record { one_floor = floor; ahead = λ f. absurd (off f); one_first = λ f _. absurd (off f); opening = λ f _ _. absurd (off f); behind = λ f _. absurd (off f); alone = λ f. absurd (both_ways v.fresh ready.fresh f) }

    old_new : (i j : ℕ) (u : View) → get_elem? views i ≡ some u → u.live ≡ true → Agree i id u v → Agree i j u (not_first v)
    old_new i j u oi lu a =
        let is_v : i ≡ id → u ≡ v = λ e. same_view views i u v oi (subst (λ (x : ℕ). get_elem? views x ≡ some v) (sym e) at) in record {
          one_floor = a.one_floor;
          ahead = a.ahead;
          one_first = λ _ f. absurd (off f);
          opening = λ f h _. a.opening f h (λ e. let z = subst (λ (x : View). x.opened < length x.seen) (is_v e) h in let y = ready.opened in omega arith);
          behind = a.behind;
          alone = λ f. absurd (both_ways v.fresh ready.fresh (subst (λ (x : View). x.fresh ≡ true) (is_v (a.alone f)) f));
        }

pub splits : (id : ℕ) (v : View) → IsReady v → Splits Keeps id v v (not_first v)
splits id v ready s law at = subst (λ (l : List View). Lawful s.words (l ++ not_first v ∷ [])) (sym (set_again s.views id v at)) (copied s.words s.views id v law at ready)

pub length-greater : (a b : List ℕ) → length (greater a b) ≡ length a
length-greater [] b = refl
length-greater (x ∷ a) [] = refl
length-greater (x ∷ a) (y ∷ b) = ap suc (length-greater a b)

pub greater_at : (a b : List ℕ) (k : ℕ) → length b ≡ length a → slice_index (greater a b) k ≡ max (slice_index a k) (slice_index b k)
greater_at [] [] k e = refl
greater_at [] (y ∷ b) k e = absurd (omega arith)
greater_at (x ∷ a) [] k e = absurd (omega arith)
greater_at (x ∷ a) (y ∷ b) zero e = refl
greater_at (x ∷ a) (y ∷ b) (suc k) e = greater_at a b k (omega arith)

either_how : (a b : Bool) → either a b ≡ true → (a ≡ true) ⊎ (b ≡ true)
either_how true b e = inl refl
either_how false b e = inr e

-- the first seat of the two has the merged view
taken_in : (words : List ℕ) (views : List View) (id other : ℕ) (v w : View) → Lawful words views → get_elem? views id ≡ some v → get_elem? views other ≡ some w → IsReady v → IsReady w → v.epoch ≡ w.epoch → Lawful words (set views id (merged v w))
taken_in words views id other v w law at there ready_v ready_w epochs =
    let vw = law.agree id other v w at there ready_v.live ready_w.live in
    let floors = vw.one_floor epochs in
    let lv = law.lengths id v at ready_v.live in
    let lw = law.lengths other w there ready_w.live in
    subst (λ (l : List ℕ). Lawful l (set views id (merged v w))) (set-get_or words 0 0)
    (stepped words views id (merged v w) 0 (slice_index words 0) law record {
      code = λ one. absurd (omega arith);
      others = λ j u ne e l one _. absurd (omega arith);
      length_is = λ _. length-greater v.seen w.seen ∙ lv;
      opened_is = λ _ f. law.opened_all id v at ready_v.live f;
      mine = λ _ p one lt. subst (λ (l : List ℕ). Sees (slice_index l p) (merged v w) p) (sym (set-get_or words 0 0)) (one_word p lv lw floors lt (law.sees id v at ready_v.live p one lt) (law.sees other w there ready_w.live p one lt));
      pairs = λ j u ne e l _. one_pair j u (law.agree id j v u at e ready_v.live l) (law.agree j id u v e at l ready_v.live) (law.agree j other u w e there l ready_w.live);
      alone = λ _. one_self (law.agree id id v v at at ready_v.live ready_v.live) vw;
    })
  where
    one_word : (p : ℕ) → length v.seen ≡ length words → length w.seen ≡ length words → v.floor ≡ w.floor → p < length words → Sees (slice_index words p) v p → Sees (slice_index words p) w p → Sees (slice_index words p) (merged v w) p
    one_word p lv lw floors lt a b =
        let g = greater_at v.seen w.seen p (lw ∙ sym lv) in record {
          at_most = let x = a.at_most in let y = b.at_most in omega arith;
          held = a.held;
          newest = a.newest;
          unopened = a.unopened;
          own = λ h. ⊎_elim
              (λ (t : (max (slice_index v.seen p) (slice_index w.seen p) ≡ slice_index v.seen p) × (slice_index w.seen p ≤ slice_index v.seen p)). subst (λ (m : ℕ). (epoch_of m ≡ v.epoch) × (code_of m ≤ ceiling v.floor p)) (sym (g ∙ t.0)) (a.own h))
              (λ (t : (max (slice_index v.seen p) (slice_index w.seen p) ≡ slice_index w.seen p) × (slice_index v.seen p ≤ slice_index w.seen p)). let o = b.own (let z = ready_w.opened in omega arith) in
              subst (λ (m : ℕ). (epoch_of m ≡ v.epoch) × (code_of m ≤ ceiling v.floor p)) (sym (g ∙ t.0)) (o.0 ∙ sym epochs, subst (λ (f : Option Bounds). code_of (slice_index w.seen p) ≤ ceiling f p) (sym floors) o.1))
              (max_is (slice_index v.seen p) (slice_index w.seen p));
          as_made = λ f. absurd (both_ways v.fresh ready_v.fresh f);
        }

    one_pair : (j : ℕ) (u : View) → Agree id j v u → Agree j id u v → Agree j other u w → Agree id j (merged v w) u × Agree j id u (merged v w)
    one_pair j u vu uv uw = (
      record {
        one_floor = vu.one_floor;
        ahead = vu.ahead;
        one_first = vu.one_first;
        opening = λ f h ne. let z = ready_v.opened in let y = length-greater v.seen w.seen in absurd (omega arith);
        behind = vu.behind;
        alone = vu.alone;
      },
      record {
        one_floor = uv.one_floor;
        ahead = uv.ahead;
        one_first = uv.one_first;
        opening = uv.opening;
        behind = λ f p. ⊎_elim (λ (a : v.past ≡ true). uv.behind f a) (λ (b : w.past ≡ true). let z = uw.behind f b in omega arith) (either_how v.past w.past p);
        alone = uv.alone;
      },
    )

    one_self : Agree id id v v → Agree id other v w → Agree id id (merged v w) (merged v w)
    one_self vv vw = record {
      one_floor = λ _. refl;
      ahead = λ _. le_refl v.epoch;
      one_first = λ _ _. refl;
      opening = λ _ _ ne. absurd (ne refl);
      behind = λ f p. ⊎_elim (λ (a : v.past ≡ true). vv.behind f a) (λ (b : w.past ≡ true). let z = vw.behind f b in omega arith) (either_how v.past w.past p);
      alone = λ _. refl;
    }

-- the other seat is spent
left_over : (words : List ℕ) (views : List View) (other : ℕ) → Lawful words views → Lawful words (set views other spent_view)
left_over words views other law =
    subst (λ (l : List ℕ). Lawful l (set views other spent_view)) (set-get_or words 0 0)
    (stepped words views other spent_view 0 (slice_index words 0) law record {
      code = λ one. absurd (omega arith);
      others = λ j u ne e l one _. absurd (omega arith);
      length_is = λ l. absurd (off l);
      opened_is = λ l. absurd (off l);
      mine = λ l. absurd (off l);
      pairs = λ j u ne e l m. absurd (off m);
      alone = λ l. absurd (off l);
    })

pub joins : (id : ℕ) (v : View) (other : ℕ) (w : View) → IsReady v → IsReady w → v.epoch ≡ w.epoch → Joins Keeps id v other w (merged v w) spent_view
joins id v other w ready_v ready_w epochs s law at apart there =
    let old : get_elem? s.views other ≡ some w = ⊎_elim (λ (t : (other ≡ id) × (merged v w ≡ w)). absurd (apart t.0)) (λ (t : (other ≢ id) × (get_elem? s.views other ≡ some w)). t.1) (at_set s.views id other (merged v w) w there) in
    left_over s.words (set s.views id (merged v w)) other (taken_in s.words s.views id other v w law at old ready_v ready_w epochs)

pub greater_is : (a b c : List ℕ) → length b ≡ length a → length c ≡ length a → ((k : ℕ) → k < length a → slice_index c k ≡ max (slice_index a k) (slice_index b k)) → c ≡ greater a b
greater_is [] [] [] eb ec h = refl
greater_is [] (y ∷ b) c eb ec h = absurd (omega arith)
greater_is [] [] (z ∷ c) eb ec h = absurd (omega arith)
greater_is (x ∷ a) [] c eb ec h = absurd (omega arith)
greater_is (x ∷ a) (y ∷ b) [] eb ec h = absurd (omega arith)
greater_is (x ∷ a) (y ∷ b) (z ∷ c) eb ec h = let t = greater_is a b c (omega arith) (omega arith) (λ k l. h (suc k) (omega arith)) in let u = h 0 (omega arith) in λ i. u i ∷ t i
