-- A step of a seat, as its caller sees it.
use Rattle.std.proofs.Common.{ℕ, ◌≡◌, ◌<◌, ◌≤◌, List, length, Bool, true, false, true≢false, ⊎_elim, refl, sym, ap, ◌∙◌, subst, arith}
use Rattle.std.specs.Prelude.{slice_index, slice_set, ◌==◌}
use Rattle.std.proofs.lemmas.List.{set-get_or}
use Rattle.std.proofs.lemmas.Grind.{get_or-set_at}
use Rattle.lattice_store.specs.declared.table.View.{View}
use Rattle.lattice_store.specs.declared.seat.Seat.{Seat}
use Rattle.lattice_store.specs.Words.{epoch_of}
use Rattle.lattice_store.specs.Rule.{seen_after, past_after, Notes}
use Rattle.lattice_store.specs.Seats.{Moved}
use Rattle.lattice_store.proofs.Telling.{off, seen_here}

seen_set : (p b : Bool) (s : List ℕ) (k n : ℕ) → k < length s → seen_after p b s k n ≡ slice_set s k (slice_index (seen_after p b s k n) k)
seen_set true b s k n h = sym (set-get_or s k 0)
seen_set false true s k n h = ap (λ (x : ℕ). slice_set s k x) (sym (get_or-set_at s k k n 0 refl h))
seen_set false false s k n h = sym (set-get_or s k 0)

frozen_when_past : (p b : Bool) (s : List ℕ) (k n : ℕ) → past_after p b ≡ true → seen_after p b s k n ≡ s
frozen_when_past true b s k n e = refl
frozen_when_past false true s k n e = absurd (off e)
frozen_when_past false false s k n e = refl

new_when_not : (p b : Bool) (s : List ℕ) (k n : ℕ) → k < length s → past_after p b ≡ false → slice_index (seen_after p b s k n) k ≡ n
new_when_not true b s k n h e = absurd (true≢false e)
new_when_not false true s k n h e = get_or-set_at s k k n 0 refl h
new_when_not false false s k n h e = absurd (true≢false e)

stays_past : (p b : Bool) → p ≡ true → past_after p b ≡ true
stays_past true b e = refl
stays_past false b e = absurd (off e)

pub moved : (before after : Seat) (k n : ℕ) → after.place.table_id ≡ before.place.table_id → after.epoch ≡ before.epoch → Notes before.place.me.0 k n after.place.me.0
    → after.seen.items ≡ seen_after before.past (epoch_of n == before.epoch) before.seen.items k n → after.past ≡ past_after before.past (epoch_of n == before.epoch) → k < length before.seen.items → Moved before after k
moved before after k n table epoch step seen past inside =
    let b = epoch_of n == before.epoch in
    let was = before.seen.items in record {
      same = record {
        store = table;
        epoch = epoch;
        floor = ap (λ (v : View). v.floor) step.view;
        first = ap (λ (v : View). v.first) step.view;
        past = λ p. past ∙ stays_past before.past b p;
      };
      seen = seen ∙ seen_set before.past b was k n inside ∙ ap (λ (l : List ℕ). slice_set was k (slice_index l k)) (sym seen);
      grows = subst (λ (l : List ℕ). slice_index was k ≤ slice_index l k) (sym seen) (grows b was);
      frozen = λ p. seen ∙ frozen_when_past before.past b was k n (sym past ∙ p);
    }
  where
    grows : (b : Bool) (was : List ℕ) → slice_index before.seen.items k ≤ slice_index (seen_after before.past b before.seen.items k n) k
    grows b was = ⊎_elim
        (λ (same : slice_index (seen_after before.past b before.seen.items k n) k ≡ slice_index before.seen.items k). omega arith)
        (λ (t : (b ≡ true) × (slice_index (seen_after before.past b before.seen.items k n) k ≡ n)). let z = subst (λ (l : List ℕ). slice_index l k ≤ n) before.stands.seen_is step.later in let y = t.1 in omega arith)
        (seen_here before.past b before.seen.items k n inside)

pub heard : (before : Seat) (seen : List ℕ) (past : Bool) (k n : ℕ) → seen ≡ seen_after before.past (epoch_of n == before.epoch) before.seen.items k n → past ≡ past_after before.past (epoch_of n == before.epoch) → k < length before.seen.items → past ≡ false → slice_index seen k ≡ n
heard before seen past k n saw turned inside not = ap (λ (l : List ℕ). slice_index l k) saw ∙ new_when_not before.past (epoch_of n == before.epoch) before.seen.items k n inside (sym turned ∙ not)
