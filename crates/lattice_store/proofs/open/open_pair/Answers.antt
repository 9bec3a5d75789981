use Rattle.std.proofs.Common.{ℕ, ◌≡◌, ◌+◌, ◌*◌, ap, ◌∙◌, sym, subst, arith, length}
use Rattle.std.specs.Prelude.{slice_index, slice_set}
use Rattle.atomic_table.specs.Seated.{TableId}
use Rattle.lattice_store.specs.Words.{epoch_of, word_of, low_code, high_code, codes_of}
use Rattle.lattice_store.specs.Steps.{Opening}
use Rattle.lattice_store.proofs.BoxLaws.{code-low, code-high}
use Rattle.lattice_store.proofs.Showing.{cast_bound}
use Rattle.lattice_store.proofs.Openings.{opens_next}
use Rattle.lattice_store.proofs.Pairs.{may_open, opened_one, after_one}
use Rattle.lattice_store.proofs.open.open_pair.Goals as goal

pub fetch_max-requires : goal.fetch_max-requires
fetch_max-requires g c =
    let o = c.requires.opening in
    let k = c.low_place.ensures in
    let v = c.requires.variable in
    let n = o.length_is in
    let w = o.words in
    let t = ap (λ (z : TableId). z.words) c.requires.table in
    let s = ap length o.seen_is in
    let word = c.low_word-low.ensures ∙ ap (λ z. word_of (epoch_of c.args.origin) (low_code z)) (cast_bound c.low.result c.low.ensures.in_range ∙ c.low.ensures.value) ∙ ap (word_of (epoch_of c.args.origin)) (sym (code-low c.args.start.now c.args.v v)) in (
      c.requires.table,
      omega arith,
      opens_next c.args.table.now.shared.table_id.slots c.args.place.now.id c.low_place.result c.low_word-low.result c.args.place.now.me o.is (o.opened ∙ sym k) (omega arith) (omega arith)
          (may_open c.args.place.now.table_id c.args.place.now.me c.args.seen.now.items c.args.start.now g.N.Naming.floor (epoch_of c.args.origin) c.low_place.result c.low_word-low.result (subst (λ (x : ℕ). Opening c.args.place.now.table_id c.args.place.now.me c.args.seen.now.items c.args.start.now g.N.Naming.floor (epoch_of c.args.origin) x) (sym k) o) c.requires.in_range c.requires.floor (omega arith) (omega arith)
          (word ∙ ap (λ (x : ℕ). word_of (epoch_of c.args.origin) (slice_index (codes_of c.args.start.now) x)) (sym k))),
    )

pub fetch_max-requires-2 : goal.fetch_max-requires-2
fetch_max-requires-2 g c =
    let o0 = c.requires.opening in
    let v = c.requires.variable in
    let n = o0.length_is in
    let low_word = c.low_word-low.ensures ∙ ap (λ z. word_of (epoch_of c.args.origin) (low_code z)) (cast_bound c.low.result c.low.ensures.in_range ∙ c.low.ensures.value) ∙ ap (word_of (epoch_of c.args.origin)) (sym (code-low c.args.start.now c.args.v v)) in
    let o : Opening c.fetch_max.new.seat.table_id c.fetch_max.new.seat.me (slice_set c.args.seen.now.items c.low_place.result c.low_word-low.result) c.args.start.now g.N.Naming.floor (epoch_of c.args.origin) (2 * c.args.v + 1 + 1) =
    opened_one c.args.place.now.table_id c.fetch_max.new.seat.table_id c.args.place.now.me c.fetch_max.new.seat.me c.args.seen.now.items c.args.start.now g.N.Naming.floor (epoch_of c.args.origin) (2 * c.args.v + 1) c.low_place.result c.low_word-low.result o0 c.fetch_max.ensures.0 c.low_place.ensures c.fetch_max.ensures.2.0 c.fetch_max.ensures.2.1 (omega arith) low_word in
    let k = c.high_place.ensures in
    let w = o.words in
    let m = o.length_is in
    let ids = c.fetch_max.ensures.0 ∙ c.requires.table in
    let t = ap (λ (z : TableId). z.words) ids in
    let s = ap length o.seen_is in
    let word = c.high_word-high.ensures ∙ ap (λ z. word_of (epoch_of c.args.origin) (high_code z)) (cast_bound c.high.result c.high.ensures.in_range ∙ c.high.ensures.value) ∙ ap (word_of (epoch_of c.args.origin)) (sym (code-high c.args.start.now c.args.v v)) in (
      ids,
      omega arith,
      opens_next c.args.table.now.shared.table_id.slots c.fetch_max.new.seat.id c.high_place.result c.high_word-high.result c.fetch_max.new.seat.me o.is (o.opened ∙ after_one c.args.v ∙ sym k) (omega arith) (omega arith)
          (may_open c.fetch_max.new.seat.table_id c.fetch_max.new.seat.me (slice_set c.args.seen.now.items c.low_place.result c.low_word-low.result) c.args.start.now g.N.Naming.floor (epoch_of c.args.origin) c.high_place.result c.high_word-high.result (subst (λ (x : ℕ). Opening c.fetch_max.new.seat.table_id c.fetch_max.new.seat.me (slice_set c.args.seen.now.items c.low_place.result c.low_word-low.result) c.args.start.now g.N.Naming.floor (epoch_of c.args.origin) x) (after_one c.args.v ∙ sym k) o) c.requires.in_range c.requires.floor (omega arith) (omega arith)
          (word ∙ ap (λ (x : ℕ). word_of (epoch_of c.args.origin) (slice_index (codes_of c.args.start.now) x)) (sym k))),
    )

pub returns-clause-opening : goal.returns-clause-opening
returns-clause-opening g c =
    let o0 = c.requires.opening in
    let v = c.requires.variable in
    let n = o0.length_is in
    let low_word = c.low_word-low.ensures ∙ ap (λ z. word_of (epoch_of c.args.origin) (low_code z)) (cast_bound c.low.result c.low.ensures.in_range ∙ c.low.ensures.value) ∙ ap (word_of (epoch_of c.args.origin)) (sym (code-low c.args.start.now c.args.v v)) in
    let high_word = c.high_word-high.ensures ∙ ap (λ z. word_of (epoch_of c.args.origin) (high_code z)) (cast_bound c.high.result c.high.ensures.in_range ∙ c.high.ensures.value) ∙ ap (word_of (epoch_of c.args.origin)) (sym (code-high c.args.start.now c.args.v v)) in
    let o : Opening c.fetch_max.new.seat.table_id c.fetch_max.new.seat.me (slice_set c.args.seen.now.items c.low_place.result c.low_word-low.result) c.args.start.now g.N.Naming.floor (epoch_of c.args.origin) (2 * c.args.v + 1 + 1) =
    opened_one c.args.place.now.table_id c.fetch_max.new.seat.table_id c.args.place.now.me c.fetch_max.new.seat.me c.args.seen.now.items c.args.start.now g.N.Naming.floor (epoch_of c.args.origin) (2 * c.args.v + 1) c.low_place.result c.low_word-low.result o0 c.fetch_max.ensures.0 c.low_place.ensures c.fetch_max.ensures.2.0 c.fetch_max.ensures.2.1 (omega arith) low_word in
    let o' : Opening c.fetch_max.new.seat.table_id c.fetch_max.new.seat.me (slice_set c.args.seen.now.items c.low_place-2.result c.low_word-low.result) c.args.start.now g.N.Naming.floor (epoch_of c.args.origin) (2 * c.args.v + 2) =
    subst (λ (x : ℕ × ℕ). Opening c.fetch_max.new.seat.table_id c.fetch_max.new.seat.me (slice_set c.args.seen.now.items x.0 c.low_word-low.result) c.args.start.now g.N.Naming.floor (epoch_of c.args.origin) x.1) (λ i. ((c.low_place.ensures ∙ sym c.low_place-2.ensures) i, after_one c.args.v i)) o in
    let m = o'.length_is in
    let r : Opening c.fetch_max-2.new.seat.table_id c.fetch_max-2.new.seat.me (slice_set (slice_set c.args.seen.now.items c.low_place-2.result c.low_word-low.result) c.high_place.result c.high_word-high.result) c.args.start.now g.N.Naming.floor (epoch_of c.args.origin) (2 * c.args.v + 2 + 1) =
    opened_one c.fetch_max.new.seat.table_id c.fetch_max-2.new.seat.table_id c.fetch_max.new.seat.me c.fetch_max-2.new.seat.me (slice_set c.args.seen.now.items c.low_place-2.result c.low_word-low.result) c.args.start.now g.N.Naming.floor (epoch_of c.args.origin) (2 * c.args.v + 2) c.high_place.result c.high_word-high.result o' c.fetch_max-2.ensures.0 c.high_place.ensures c.fetch_max-2.ensures.2.0 c.fetch_max-2.ensures.2.1 (omega arith) high_word in
    let e : 2 * c.args.v + 2 + 1 ≡ 2 * c.args.v + 3 = omega arith in
    subst (λ (x : ℕ × ℕ). Opening c.fetch_max-2.new.seat.table_id c.fetch_max-2.new.seat.me (slice_set (slice_set c.args.seen.now.items c.low_place-2.result c.low_word-low.result) x.0 c.high_word-high.result) c.args.start.now g.N.Naming.floor (epoch_of c.args.origin) x.1) (λ i. ((c.high_place.ensures ∙ sym c.high_place-2.ensures) i, e i)) r
