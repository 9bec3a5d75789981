-- What a step does to a seat's fields and view.
use Rattle.std.proofs.Common.{ℕ, ◌≡◌, ◌≢◌, ◌<◌, ◌≤◌, List, length, Bool, true, false, ⊎_elim, sym, ap, ◌∙◌, subst, eq-eqb, arith}
use Rattle.std.specs.Prelude.{slice_index, Option, IfSome, ◌==◌}
use mathlib.Core.Logic.{dite}
use native.Mathlib.Decide.{ℕ_discrete}
use Rattle.atomic_table.specs.Table.{Me}
use Rattle.atomic_table.specs.Seated.{TableId}
use Rattle.interval.specs.Boxes.{Bounds}
use Rattle.lattice_store.specs.declared.table.View.{View}
use Rattle.lattice_store.specs.Words.{epoch_of, box_of}
use Rattle.lattice_store.specs.Rule.{seen_after, past_after, Notes}
use Rattle.lattice_store.specs.Standing.{Stands, IsOwnWord}
use Rattle.lattice_store.proofs.BoxLaws.{box-length}
use Rattle.lattice_store.proofs.WordLaws.{rises}
use Rattle.lattice_store.specs.Steps.{IsReady}
use Rattle.lattice_store.proofs.Telling.{eqb_means, length-seen_after, seen_else, seen_here}

pub is_ready : (id : TableId) (me : Me ℕ View) (seen : List ℕ) (epoch : ℕ) (past : Bool) → Stands id me seen epoch past → IsReady me.0
is_ready id me seen epoch past s = record { live = s.live; fresh = s.fresh; opened = s.opened ∙ sym (ap length s.seen_is) }

-- what holds of what was seen, and of the word seen now, holds of what is then seen
pub seen_keeps : (P : ℕ → ℕ → Type 0) (p b : Bool) (s : List ℕ) (k n j : ℕ) → k < length s → P j (slice_index s j) → (b ≡ true → P k n) → P j (slice_index (seen_after p b s k n) j)
seen_keeps P p b s k n j inside was now =
    dite (ℕ_discrete j k)
    (λ (e : j ≡ k). ⊎_elim
    (λ (same : slice_index (seen_after p b s k n) k ≡ slice_index s k). subst (P j) (sym (subst (λ (x : ℕ). slice_index (seen_after p b s k n) x ≡ slice_index s x) (sym e) same)) was)
    (λ (t : (b ≡ true) × (slice_index (seen_after p b s k n) k ≡ n)). subst (λ (x : ℕ). P x (slice_index (seen_after p b s k n) x)) (sym e) (subst (P k) (sym t.1) (now t.0)))
    (seen_here p b s k n inside))
    (λ (ne : j ≢ k). subst (P j) (sym (seen_else p b s k n j ne)) was)

-- a step on the word k, after which it was n, keeps the seat's own facts
pub still_stands : (id : TableId) (me after : Me ℕ View) (seen : List ℕ) (epoch : ℕ) (past : Bool) (k n : ℕ) → Stands id me seen epoch past → after.1 ≡ me.1 → Notes me.0 k n after.0 → 1 ≤ k → k < length seen
    → Stands id after (seen_after past (epoch_of n == epoch) seen k n) epoch (past_after past (epoch_of n == epoch))
still_stands id me after seen epoch past k n s slots step one inside = record {
  live = ap (λ (v : View). v.live) step.view ∙ s.live;
  fresh = ap (λ (v : View). v.fresh) step.view ∙ s.fresh;
  opened = ap (λ (v : View). v.opened) step.view ∙ s.opened ∙ sym same_length;
  empty = slots ∙ s.empty;
  epoch_is = ap (λ (v : View). v.epoch) step.view ∙ s.epoch_is;
  past_is = ap (λ (v : View). v.past) step.view ∙ (λ i. past_after (s.past_is i) (epoch_of n == s.epoch_is i));
  seen_is = ap (λ (v : View). v.seen) step.view ∙ (λ i. seen_after (s.past_is i) (epoch_of n == s.epoch_is i) (s.seen_is i) k n);
  length_is = same_length ∙ s.length_is;
  pairs = let p = s.pairs in let q = box-length (seen_after past (epoch_of n == epoch) seen k n) (length (box_of seen)) (same_length ∙ p) in omega (arith, same_length);
  slots = s.slots;
  first_is_not_past = λ f. never past (s.first_is_not_past (sym (ap (λ (v : View). v.first) step.view) ∙ f)) (sym (ap (λ (v : View). v.first) step.view) ∙ f);
  own = λ j oj ij. subst (λ (f : Option Bounds). IsOwnWord epoch f j (slice_index (seen_after past (epoch_of n == epoch) seen k n) j)) (sym floors)
      (seen_keeps (IsOwnWord epoch me.0.floor) past (epoch_of n == epoch) seen k n j inside (s.own j oj (omega (arith, same_length))) (λ b. let e = eqb_means (epoch_of n) epoch b in record { code = step.code; epoch_is = e; held = step.held (e ∙ sym s.epoch_is) }));
  sized = subst (λ (f : Option Bounds). IfSome f (λ b. length b ≡ length (box_of (seen_after past (epoch_of n == epoch) seen k n)))) (sym floors)
      (subst (λ (m : ℕ). IfSome me.0.floor (λ b. length b ≡ m)) (sym (box-length (seen_after past (epoch_of n == epoch) seen k n) (length (box_of seen)) (same_length ∙ s.pairs))) s.sized);
}
  where
    same_length : length (seen_after past (epoch_of n == epoch) seen k n) ≡ length seen
    same_length = length-seen_after past (epoch_of n == epoch) seen k n

    floors : after.0.floor ≡ me.0.floor
    floors = ap (λ (v : View). v.floor) step.view

    never : (p : Bool) → p ≡ false → me.0.first ≡ true → past_after p (epoch_of n == epoch) ≡ false
    never p e f = let low = rises (slice_index seen k) n (subst (λ (l : List ℕ). slice_index l k ≤ n) s.seen_is step.later) in let own = (s.own k one inside).epoch_is in let high = step.newest f in let there = s.epoch_is in
        (λ i. past_after (e i) (eq-eqb (epoch_of n) epoch (omega arith) i))

pub stands_at : (id id' : TableId) (me : Me ℕ View) (seen seen' : List ℕ) (epoch : ℕ) (past past' : Bool) → id' ≡ id → seen' ≡ seen → past' ≡ past → Stands id me seen epoch past → Stands id' me seen' epoch past'
stands_at id id' me seen seen' epoch past past' a b c s = subst (λ (x : TableId). Stands x me seen' epoch past') (sym a) (subst (λ (x : List ℕ). Stands id me x epoch past') (sym b) (subst (λ (x : Bool). Stands id me seen epoch x) (sym c) s))
