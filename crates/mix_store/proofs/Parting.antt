-- The start, the split and the join of seats keep the rule.
use Rattle.std.proofs.Common.{ℕ, zero, suc, ◌≡◌, ◌≢◌, ◌⊎◌, ◌<◌, List, [], ◌∷◌, ◌++◌, length, set, Bool, true, false, true≢false, ⊎_elim, refl, sym, ap, ◌∙◌, subst, arith}
use Rattle.std.specs.Prelude.{slice_index}
use mathlib.Core.Option.{some, some-injective, some-ne-none}
use lib.ListN.{get_elem?}
use Rattle.atomic_table.specs.Table.{Splits, Joins}
use Rattle.atomic_table.proofs.Lists.{at_set, at_snoc, set_again}
use Rattle.bit_domain.specs.Mixes.{Mix}
use Rattle.mix_store.specs.declared.table.WordKind.{WordKind}
use Rattle.mix_store.specs.declared.table.View.{View}
use Rattle.mix_store.specs.Order.{Holds, IsWord, join_of}
use Rattle.mix_store.specs.Words.{words_of, kinds_of}
use Rattle.mix_store.specs.Rule.{kind_at, Sees, Agree, Lawful, Keeps, made_view, joined, merged, spent_view}
use Rattle.mix_store.proofs.OrderLaws.{holds_itself, join_holds}

never_fresh : (f : Bool) → f ≡ false → f ≡ true → ⊥
never_fresh f off on = true≢false (sym on ∙ off)

same_view : (views : List View) (i j : ℕ) (u v : View) → i ≡ j → get_elem? views i ≡ some u → get_elem? views j ≡ some v → u ≡ v
same_view views i j u v e a b = some-injective u v (sym a ∙ ap (get_elem? views) e ∙ b)

-- the first seat alone
only : (v u : View) (j : ℕ) → get_elem? (v ∷ []) j ≡ some u → (j ≡ 0) × (v ≡ u)
only v u zero e = (refl, some-injective v u e)
only v u (suc j) e = absurd (some-ne-none u (sym e))

pub begins : (m : Mix) → ((k : ℕ) → k < length (words_of m) → IsWord (kind_at (kinds_of m) k) (slice_index (words_of m) k)) → Lawful (words_of m) (made_view m ∷ [])
begins m words =
    let v = made_view m in record {
      each = λ j u e l. subst (Sees (words_of m)) (only v u j e).1 record {
        length_is = refl;
        fits = λ k less. record { allowed = record { word = words k less; held = tt }; behind = holds_itself (kind_at (kinds_of m) k) (slice_index (words_of m) k) };
        as_made = λ _. refl;
      };
      agree = λ i j u w ei ej lu lw.
          let a = only v u i ei in
          let b = only v w j ej in
          subst (λ (x : View). Agree i j x w) a.1 (subst (λ (x : View). Agree i j v x) b.1 record { kinds = refl; floor = refl; alone = λ _. a.0 ∙ sym b.0 });
    }

copied : (words : List ℕ) (views : List View) (id : ℕ) (v : View) → Lawful words views → get_elem? views id ≡ some v → v.live ≡ true → v.fresh ≡ false → Lawful words (views ++ v ∷ [])
copied words views id v law at live fresh = record {
  each = λ j u e l. ⊎_elim
      (λ was. law.each j u was l)
      (λ (f : v ≡ u). subst (Sees words) f (law.each id v at live))
      (at_snoc views v u j e);
  agree = λ i j u w ei ej lu lw.
      let a = like i u ei lu in
      let b = like j w ej lw in record {
        kinds = a.0 ∙ sym b.0;
        floor = a.1 ∙ sym b.1;
        alone = λ f. ⊎_elim
            (λ (oi : get_elem? views i ≡ some u). ⊎_elim
            (λ (oj : get_elem? views j ≡ some w). (law.agree i j u w oi oj lu lw).alone f)
            (λ (g : v ≡ w). absurd (never_fresh v.fresh fresh (subst (λ (x : View). x.fresh ≡ true) (same_view views i id u v ((law.agree i id u v oi at lu live).alone f) oi at) f)))
            (at_snoc views v w j ej))
            (λ (g : v ≡ u). absurd (never_fresh v.fresh fresh (subst (λ (x : View). x.fresh ≡ true) (sym g) f)))
            (at_snoc views v u i ei);
      };
}
  where
    like : (j : ℕ) (u : View) → get_elem? (views ++ v ∷ []) j ≡ some u → u.live ≡ true → (u.kinds ≡ v.kinds) × (u.floor ≡ v.floor)
    like j u e l = ⊎_elim
        (λ (was : get_elem? views j ≡ some u). let a = law.agree j id u v was at l live in (a.kinds, a.floor))
        (λ (f : v ≡ u). (ap (λ (x : View). x.kinds) (sym f), ap (λ (x : View). x.floor) (sym f)))
        (at_snoc views v u j e)

pub splits : (id : ℕ) (v : View) → v.live ≡ true → v.fresh ≡ false → Splits Keeps id v v v
splits id v live fresh s law at = subst (λ (l : List View). Lawful s.words (l ++ v ∷ [])) (sym (set_again s.views id v at)) (copied s.words s.views id v law at live fresh)

pub length-joined : (kinds : List WordKind) (xs ys : List ℕ) → length (joined kinds xs ys) ≡ length xs
length-joined kinds [] ys = refl
length-joined [] (x ∷ xs) ys = refl
length-joined (kind ∷ kinds) (x ∷ xs) [] = refl
length-joined (kind ∷ kinds) (x ∷ xs) (y ∷ ys) = ap suc (length-joined kinds xs ys)

pub joined_at : (kinds : List WordKind) (xs ys : List ℕ) (k : ℕ) → length kinds ≡ length xs → length ys ≡ length xs → k < length xs → slice_index (joined kinds xs ys) k ≡ join_of (kind_at kinds k) (slice_index xs k) (slice_index ys k)
joined_at kinds [] ys k e f h = absurd (omega arith)
joined_at [] (x ∷ xs) ys k e f h = absurd (omega arith)
joined_at (kind ∷ kinds) (x ∷ xs) [] k e f h = absurd (omega arith)
joined_at (kind ∷ kinds) (x ∷ xs) (y ∷ ys) zero e f h = refl
joined_at (kind ∷ kinds) (x ∷ xs) (y ∷ ys) (suc k) e f h = joined_at kinds xs ys k (omega arith) (omega arith) (omega arith)

-- the seat id takes in what the seat other has seen
module _ (words : List ℕ) (views : List View) (id other : ℕ) (v w : View) (law : Lawful words views) (at : get_elem? views id ≡ some v) (there : get_elem? views other ≡ some w) (live_v : v.live ≡ true) (live_w : w.live ≡ true) (fresh : v.fresh ≡ false) (kinds : length v.kinds ≡ length v.seen) where
  one : Sees words v
  one = law.each id v at live_v

  two : Sees words w
  two = law.each other w there live_w

  merged_sees : Sees words (merged v w)
  merged_sees =
      let a = one.length_is in
      let b = two.length_is in
      let l = length-joined v.kinds v.seen w.seen in record {
        length_is = a ∙ sym l;
        fits = λ k less. record {
          allowed = (one.fits k less).allowed;
          behind = subst (λ (x : ℕ). Holds (kind_at v.kinds k) x (slice_index words k)) (sym (joined_at v.kinds v.seen w.seen k kinds (sym b ∙ a) (omega arith)))
              (join_holds (kind_at v.kinds k) (slice_index v.seen k) (slice_index w.seen k) (slice_index words k) (one.fits k less).behind
              (subst (λ (x : List WordKind). Holds (kind_at x k) (slice_index w.seen k) (slice_index words k)) (sym (law.agree id other v w at there live_v live_w).kinds) (two.fits k less).behind));
        };
        as_made = λ f. absurd (never_fresh v.fresh fresh f);
      }

  abbrev after : List View
  after = set (set views id (merged v w)) other spent_view

  which : (j : ℕ) (u : View) → get_elem? after j ≡ some u → u.live ≡ true → ((j ≡ id) × (merged v w ≡ u)) ⊎ ((j ≢ id) × (get_elem? views j ≡ some u))
  which j u e l = ⊎_elim
      (λ (t : (j ≡ other) × (spent_view ≡ u)). absurd (true≢false (sym (ap (λ (x : View). x.live) t.1 ∙ l))))
      (λ (t : (j ≢ other) × (get_elem? (set views id (merged v w)) j ≡ some u)). at_set views id j (merged v w) u t.1)
      (at_set (set views id (merged v w)) other j spent_view u e)

  joined_law : Lawful words after
  joined_law = record {
    each = λ j u e l. ⊎_elim
        (λ (t : (j ≡ id) × (merged v w ≡ u)). subst (Sees words) t.1 merged_sees)
        (λ (t : (j ≢ id) × (get_elem? views j ≡ some u)). law.each j u t.1 l)
        (which j u e l);
    agree = λ i j u x ei ej lu lx. ⊎_elim
        (λ (t : (i ≡ id) × (merged v w ≡ u)). ⊎_elim
        (λ (s : (j ≡ id) × (merged v w ≡ x)). subst (λ (y : View). Agree i j u y) s.1 (subst (λ (y : View). Agree i j y (merged v w)) t.1 record { kinds = refl; floor = refl; alone = λ f. absurd (never_fresh v.fresh fresh f) }))
        (λ (s : (j ≢ id) × (get_elem? views j ≡ some x)). let a = law.agree id j v x at s.1 live_v lx in subst (λ (y : View). Agree i j y x) t.1 record { kinds = a.kinds; floor = a.floor; alone = λ f. absurd (never_fresh v.fresh fresh f) })
        (which j x ej lx))
        (λ (t : (i ≢ id) × (get_elem? views i ≡ some u)). ⊎_elim
        (λ (s : (j ≡ id) × (merged v w ≡ x)). let a = law.agree i id u v t.1 at lu live_v in subst (λ (y : View). Agree i j u y) s.1 record { kinds = a.kinds; floor = a.floor; alone = λ f. a.alone f ∙ sym s.0 })
        (λ (s : (j ≢ id) × (get_elem? views j ≡ some x)). law.agree i j u x t.1 s.1 lu lx)
        (which j x ej lx))
        (which i u ei lu);
  }

pub joins : (id : ℕ) (v : View) (other : ℕ) (w : View) → v.live ≡ true → w.live ≡ true → v.fresh ≡ false → length v.kinds ≡ length v.seen → Joins Keeps id v other w (merged v w) spent_view
joins id v other w live_v live_w fresh kinds s law at apart there =
    let old : get_elem? s.views other ≡ some w = ⊎_elim (λ (t : (other ≡ id) × (merged v w ≡ w)). absurd (apart t.0)) (λ (t : (other ≢ id) × (get_elem? s.views other ≡ some w)). t.1) (at_set s.views id other (merged v w) w there) in
    joined_law s.words s.views id other v w law at old live_v live_w fresh kinds
