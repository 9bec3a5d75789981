-- Each kind of step keeps the rule. One lemma serves them all: a step that writes one word and changes one view.
use Rattle.std.proofs.Common.{ℕ, ◌≡◌, ◌≢◌, ◌⊎◌, ◌<◌, ◌≤◌, List, length, set, true, false, ⊎_elim, sym, ◌∙◌, subst, le_trans, arith, length-set, get_or-set_other}
use Rattle.std.specs.Prelude.{slice_index, Option}
use mathlib.Core.Option.{some}
use mathlib.Core.Logic.{dite}
use native.Mathlib.Decide.{ℕ_discrete}
use lib.ListN.{get_elem?}
use Rattle.std.proofs.lemmas.Grind.{get_or-set_at}
use Rattle.atomic_table.proofs.Lists.{at_set}
use Rattle.interval.specs.Boxes.{Bounds}
use Rattle.lattice_store.specs.declared.table.View.{View}
use Rattle.lattice_store.specs.Words.{epoch_of, code_of, IsCode, ceiling}
use Rattle.lattice_store.specs.Rule.{Sees, Agree, Lawful}

-- what holds of a view at its seat holds of an equal view at an equal seat
pub carried : (P : ℕ → View → Type 0) (i id : ℕ) (w u : View) → i ≡ id → w ≡ u → (w.live ≡ true → P id w) → u.live ≡ true → P i u
carried P i id w u e f h l = subst (λ (x : ℕ × View). P x.0 x.1) (λ t. (sym e t, f t)) (h (subst (λ (x : View). x.live ≡ true) (sym f) l))

sees_set : (ws : List ℕ) (k n p : ℕ) (u : View) → p < length ws → Sees (slice_index ws p) u p → (p ≡ k → Sees n u p) → Sees (slice_index (set ws k n) p) u p
sees_set ws k n p u lt was new =
    dite (ℕ_discrete p k)
    (λ (e : p ≡ k). let same : slice_index (set ws k n) p ≡ n = get_or-set_at ws k p n 0 e (omega arith) in subst (λ (x : ℕ). Sees x u p) (sym same) (new e))
    (λ (ne : p ≢ k). let same : slice_index (set ws k n) p ≡ slice_index ws p = get_or-set_other ws k p n 0 ne in subst (λ (x : ℕ). Sees x u p) (sym same) was)

code_set : (ws : List ℕ) (k n p : ℕ) → p < length ws → IsCode (slice_index ws p) → (p ≡ k → IsCode n) → IsCode (slice_index (set ws k n) p)
code_set ws k n p lt was new =
    dite (ℕ_discrete p k)
    (λ (e : p ≡ k). let same : slice_index (set ws k n) p ≡ n = get_or-set_at ws k p n 0 e (omega arith) in subst IsCode (sym same) (new e))
    (λ (ne : p ≢ k). let same : slice_index (set ws k n) p ≡ slice_index ws p = get_or-set_other ws k p n 0 ne in subst IsCode (sym same) was)

-- what a step of the seat id, from v to w, owes
pub record Steps (ws : List ℕ) (vs : List View) (id : ℕ) (w : View) (k n : ℕ) : Type 0 where
  pub code : 1 ≤ k → IsCode n
  pub others : (j : ℕ) (u : View) → j ≢ id → get_elem? vs j ≡ some u → u.live ≡ true → 1 ≤ k → k < length ws → Sees n u k
  pub length_is : w.live ≡ true → length w.seen ≡ length ws
  pub opened_is : w.live ≡ true → w.first ≡ false → w.opened ≡ length ws
  pub mine : w.live ≡ true → (p : ℕ) → 1 ≤ p → p < length ws → Sees (slice_index (set ws k n) p) w p
  pub pairs : (j : ℕ) (u : View) → j ≢ id → get_elem? vs j ≡ some u → u.live ≡ true → w.live ≡ true → Agree id j w u × Agree j id u w
  pub alone : w.live ≡ true → Agree id id w w

pub stepped : (ws : List ℕ) (vs : List View) (id : ℕ) (w : View) (k n : ℕ) → Lawful ws vs → Steps ws vs id w k n → Lawful (set ws k n) (set vs id w)
stepped ws vs id w k n law s = record {
  codes = λ p one lt. let lt' : p < length ws = omega (arith, length-set {A = ℕ}) in code_set ws k n p lt' (law.codes p one lt') (λ e. s.code (omega arith));
  lengths = λ j u e l. length-set_is j u l
      (⊎_elim
      (λ (t : (j ≡ id) × (w ≡ u)). carried (λ _ x. length x.seen ≡ length ws) j id w u t.0 t.1 s.length_is l)
      (λ (t : (j ≢ id) × (get_elem? vs j ≡ some u)). law.lengths j u t.1 l)
      (at_set vs id j w u e));
  opened_all = λ j u e l f.
      ⊎_elim
      (λ (t : (j ≡ id) × (w ≡ u)). carried (λ _ x. x.first ≡ false → x.opened ≡ length ws) j id w u t.0 t.1 s.opened_is l f)
      (λ (t : (j ≢ id) × (get_elem? vs j ≡ some u)). law.opened_all j u t.1 l f)
      (at_set vs id j w u e)
      ∙ sym (length-set ws k n);
  sees = λ j u e l p one lt. let lt' : p < length ws = omega (arith, length-set {A = ℕ}) in
      ⊎_elim
      (λ (t : (j ≡ id) × (w ≡ u)). carried (λ _ x. Sees (slice_index (set ws k n) p) x p) j id w u t.0 t.1 (λ h. s.mine h p one lt') l)
      (λ (t : (j ≢ id) × (get_elem? vs j ≡ some u)). sees_set ws k n p u lt' (law.sees j u t.1 l p one lt') (λ e'. subst (λ (x : ℕ). Sees n u x) (sym e') (s.others j u t.0 t.1 l (omega arith) (omega arith))))
      (at_set vs id j w u e);
  agree = λ i j u v ei ej lu lv.
      ⊎_elim
      (λ (ti : (i ≡ id) × (w ≡ u)).
      ⊎_elim
      (λ (tj : (j ≡ id) × (w ≡ v)). carried (λ y x. Agree i y u x) j id w v tj.0 tj.1 (λ lw. carried (λ y x. Agree y id x w) i id w u ti.0 ti.1 s.alone lu) lv)
      (λ (tj : (j ≢ id) × (get_elem? vs j ≡ some v)). carried (λ y x. Agree y j x v) i id w u ti.0 ti.1 (λ lw. (s.pairs j v tj.0 tj.1 lv lw).0) lu)
      (at_set vs id j w v ej))
      (λ (ti : (i ≢ id) × (get_elem? vs i ≡ some u)).
      ⊎_elim
      (λ (tj : (j ≡ id) × (w ≡ v)). carried (λ y x. Agree i y u x) j id w v tj.0 tj.1 (λ lw. (s.pairs i u ti.0 ti.1 lu lw).1) lv)
      (λ (tj : (j ≢ id) × (get_elem? vs j ≡ some v)). law.agree i j u v ti.1 tj.1 lu lv)
      (at_set vs id j w v ej))
      (at_set vs id i w u ei);
}
  where
    length-set_is : (j : ℕ) (u : View) → u.live ≡ true → length u.seen ≡ length ws → length u.seen ≡ length (set ws k n)
    length-set_is j u l e = e ∙ sym (length-set ws k n)

-- a seat that only copies or raises a word as the view v may, beside another seat u
pub raised : (id j n m k : ℕ) (v u : View) → j ≢ id → k < length u.seen → n ≤ m → (m ≡ n) ⊎ ((epoch_of m ≡ v.epoch) × (code_of m ≤ ceiling v.floor k)) → Agree id j v u → Agree j id u v → Sees n u k → Sees m u k
raised id j n m k v u apart lt le how vu uv s =
    ⊎_elim
    (λ (e : m ≡ n). subst (λ (x : ℕ). Sees x u k) (sym e) s)
    (λ (t : (epoch_of m ≡ v.epoch) × (code_of m ≤ ceiling v.floor k)). record {
      at_most = le_trans s.at_most le;
      held = λ e. subst (λ (f : Option Bounds). code_of m ≤ ceiling f k) (vu.one_floor (sym t.0 ∙ e)) t.1;
      newest = λ f. let a = uv.ahead f in omega (arith, t.0);
      unopened = λ f h. let a = uv.opening f (omega arith) apart in omega (arith, t.0);
      own = s.own;
      as_made = λ f. absurd (apart (uv.alone f));
    })
    how
