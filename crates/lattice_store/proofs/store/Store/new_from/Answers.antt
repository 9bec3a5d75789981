use Rattle.std.proofs.Common.{ℕ, ◌≡◌, ◌<◌, ◌≤◌, List, refl, sym, ap, ◌∙◌, subst, arith, length}
use Rattle.std.specs.Prelude.{slice_index, None}
use Rattle.atomic_table.specs.Table.{Me}
use Rattle.atomic_table.specs.Seated.{TableId}
use Rattle.lattice_store.specs.declared.table.View.{View}
use Rattle.lattice_store.specs.Words.{code_of, ceiling}
use Rattle.lattice_store.proofs.Openings.{begins_lawful}
use Rattle.lattice_store.proofs.Starting.{start_word, start_box, start_stands, IsFreshSeat}
use Rattle.lattice_store.proofs.store.Store.new_from.Goals as goal

pub of_words-requires : goal.of_words-requires
of_words-requires g c =
    let w = c.in_ok-words.ensures.words in
    let n = w.length_is in
    rw c.as_slice.ensures.value
    (begins_lawful c.in_ok-words.words.items c.args.epoch
    (λ k one lt. let o = start_word c.args.epoch c.args.start.now None (slice_index c.in_ok-words.words.items k) k c.in_ok-words.ensures.in_range tt (w.each k one lt) one (omega arith) in (o.code, o.epoch_is)))

pub name_floor-requires-clause-held : goal.name_floor-requires-clause-held
name_floor-requires-clause-held g c =
    let w = c.in_ok-words.ensures.words in
    let n = w.length_is in
    let t = c.in_ok-table.ensures in
    let seen : c.in_ok-table.place.me.0.seen ≡ c.in_ok-words.words.items = ap (λ (m : Me ℕ View). m.0.seen) t.4 in
    subst (λ (l : List ℕ). (k : ℕ) → 1 ≤ k → k < length l → code_of (slice_index l k) ≤ ceiling g.floor k) (sym seen)
    (λ k one lt. (start_word c.args.epoch c.args.start.now g.floor (slice_index c.in_ok-words.words.items k) k c.in_ok-words.ensures.in_range c.requires.1 (w.each k one lt) one (omega arith)).held)

pub invariant_of-seat : goal.invariant_of-seat
invariant_of-seat g c =
    let t = c.in_ok-table.ensures in
    let v = c.name_floor.ensures.view in
    let id : c.name_floor.new.place.table_id ≡ c.in_ok-table.table.shared.table_id = c.name_floor.ensures.table ∙ t.2 in
    let seat : IsFreshSeat c.name_floor.new.place.table_id c.name_floor.new.place.me g.floor c.args.epoch c.in_ok-words.words.items = record {
      live = ap (λ (x : View). x.live) v ∙ ap (λ (m : Me ℕ View). m.0.live) t.4;
      fresh = ap (λ (x : View). x.fresh) v;
      opened = ap (λ (x : View). x.opened) v ∙ ap (λ (m : Me ℕ View). m.0.opened) t.4;
      empty = c.name_floor.ensures.slots ∙ ap (λ (m : Me ℕ View). m.1) t.4;
      epoch_is = ap (λ (x : View). x.epoch) v ∙ ap (λ (m : Me ℕ View). m.0.epoch) t.4;
      past = ap (λ (x : View). x.past) v ∙ ap (λ (m : Me ℕ View). m.0.past) t.4;
      seen = ap (λ (x : View). x.seen) v ∙ ap (λ (m : Me ℕ View). m.0.seen) t.4;
      floor_is = ap (λ (x : View). x.floor) v;
      words = sym (ap (λ (x : TableId). x.words) id ∙ t.0 ∙ ap length c.as_slice.ensures.value);
      slots = ap (λ (x : TableId). x.slots) id ∙ t.1;
    } in record { in_range = c.requires.0; origin_is = c.origin_word.ensures; stands = start_stands c.name_floor.new.place.table_id c.name_floor.new.place.me g.floor c.args.epoch c.in_ok-words.words.items c.args.start.now seat c.in_ok-words.ensures.in_range c.requires.1 c.in_ok-words.ensures.words }

pub returns : goal.returns
returns g c =
    let t = c.in_ok-table.ensures in
    let v = c.name_floor.ensures.view in record {
      store_is = c.name_floor.ensures.table ∙ t.2;
      seen = start_box c.args.epoch c.args.start.now c.in_ok-words.words.items c.in_ok-words.ensures.in_range c.in_ok-words.ensures.words;
      epoch_is = refl;
      floor_is = ap (λ (x : View). x.floor) v;
      first = ap (λ (x : View). x.first) v ∙ ap (λ (m : Me ℕ View). m.0.first) t.4;
    }
