use Rattle.std.proofs.Common.{ℕ, ◌+◌, ◌*◌, ◌≤◌, sym, ap, ◌∙◌, subst, arith}
use Rattle.std.specs.Prelude.{slice_index}
use Rattle.std.specs.Mem.Slots.{slots_items}
use Rattle.atomic_table.specs.Seated.{TableId}
use Rattle.interval.specs.Limits.{bound_limit}
use Rattle.bit_domain.specs.Mixes.{dom_of, IsDomInRange}
use Rattle.mix_store.specs.Words.{read_of}
use Rattle.mix_store.specs.Domains.{IsBits, IsPair}
use Rattle.mix_store.proofs.MixLaws.{bits_inside, pair_inside}
use Rattle.mix_store.proofs.Stepping.{has_place, place_is}
use Rattle.mix_store.proofs.Closing.{at_end, pair_there, last_lawful, last_next, last_all, closed_inside, closed_floor}
use Rattle.mix_store.proofs.store.MixStore.close.Goals as goal

pub place_at-k-requires : goal.place_at-k-requires
place_at-k-requires c = has_place c.args.self c.args.seat c.loop-v.v c.requires.store (let t = c.loop-v-test.true in let l = c.len-v-end.ensures.value in let q = c.requires.length in omega arith)

pub last_dom-dom-requires-clause-bits : goal.last_dom-dom-requires-clause-bits
last_dom-dom-requires-clause-bits c = λ b.
    let k = (c.place_at-k.ensures.value ∙ place_is c.args.self c.args.seat c.loop-v.v c.requires.store (let t = c.loop-v-test.true in let l = c.len-v-end.ensures.value in let q = c.requires.length in omega arith)) in
    let i = bits_inside c.args.seat.seen c.loop-v.v ((let t = c.loop-v-test.true in let l = c.len-v-end.ensures.value in let q = c.requires.length in omega arith), subst IsBits c.dom.ensures.value b) in
    let w = c.args.seat.stands.words_is in
    let t = ap (λ (x : TableId). x.words) c.requires.store.table in
    let n = c.close_with-closed.ensures.counts.0 in
    omega arith

pub last_dom-dom-requires-clause-pair : goal.last_dom-dom-requires-clause-pair
last_dom-dom-requires-clause-pair c = λ p.
    let k = (c.place_at-k.ensures.value ∙ place_is c.args.self c.args.seat c.loop-v.v c.requires.store (let t = c.loop-v-test.true in let l = c.len-v-end.ensures.value in let q = c.requires.length in omega arith)) in
    let pair : IsPair (dom_of c.args.seat.seen c.loop-v.v) = subst IsPair c.dom.ensures.value p in
    let i = pair_inside c.args.seat.seen c.loop-v.v ((let t = c.loop-v-test.true in let l = c.len-v-end.ensures.value in let q = c.requires.length in omega arith), pair) in
    let w = c.args.seat.stands.words_is in
    let t = ap (λ (x : TableId). x.words) c.requires.store.table in
    let n = c.close_with-closed.ensures.counts.0 in
    let there = pair_there (slots_items c.close_with-closed.result.words) c.args.seat (at_end (slots_items c.close_with-closed.result.words) _ c.args.seat c.close_with-closed.ensures.values.2) c.loop-v.v (let t = c.loop-v-test.true in let l = c.len-v-end.ensures.value in let q = c.requires.length in omega arith) pair in
    (omega arith, subst (λ (j : ℕ). slice_index (slots_items c.close_with-closed.result.words) j ≤ 2 * bound_limit) (sym k) there.1, subst (λ (j : ℕ). slice_index (slots_items c.close_with-closed.result.words) (j + 1) ≤ 2 * bound_limit) (sym k) there.2)

pub put-requires-clause-in_range : goal.put-requires-clause-in_range
put-requires-clause-in_range c = subst IsDomInRange (sym (c.last_dom-dom.ensures ∙ (λ i. read_of (c.dom.ensures.value i) (slice_index (slots_items c.close_with-closed.result.words) ((c.place_at-k.ensures.value ∙ place_is c.args.self c.args.seat c.loop-v.v c.requires.store (let t = c.loop-v-test.true in let l = c.len-v-end.ensures.value in let q = c.requires.length in omega arith)) i)) (slice_index (slots_items c.close_with-closed.result.words) ((c.place_at-k.ensures.value ∙ place_is c.args.self c.args.seat c.loop-v.v c.requires.store (let t = c.loop-v-test.true in let l = c.len-v-end.ensures.value in let q = c.requires.length in omega arith)) i + 1))))) (last_lawful (slots_items c.close_with-closed.result.words) c.args.seat (at_end (slots_items c.close_with-closed.result.words) _ c.args.seat c.close_with-closed.ensures.values.2) c.loop-v.v (let t = c.loop-v-test.true in let l = c.len-v-end.ensures.value in let q = c.requires.length in omega arith))

pub loop-v-preserved : goal.loop-v-preserved
loop-v-preserved c = record {
  last = last_next (slots_items c.close_with-closed.result.words) c.args.seat.seen c.loop-v.into c.put.new.self c.loop-v.v c.last_dom-dom.result c.loop-v.invariant.last (let e = c.loop-v.invariant.last.length_is in let t = c.loop-v-test.true in let l = c.len-v-end.ensures.value in let q = c.requires.length in omega arith) c.put.ensures (c.last_dom-dom.ensures ∙ (λ i. read_of (c.dom.ensures.value i) (slice_index (slots_items c.close_with-closed.result.words) ((c.place_at-k.ensures.value ∙ place_is c.args.self c.args.seat c.loop-v.v c.requires.store (let t = c.loop-v-test.true in let l = c.len-v-end.ensures.value in let q = c.requires.length in omega arith)) i)) (slice_index (slots_items c.close_with-closed.result.words) ((c.place_at-k.ensures.value ∙ place_is c.args.self c.args.seat c.loop-v.v c.requires.store (let t = c.loop-v-test.true in let l = c.len-v-end.ensures.value in let q = c.requires.length in omega arith)) i + 1))));
}

pub returns-clause-inside : goal.returns-clause-inside
returns-clause-inside c = closed_inside (slots_items c.close_with-closed.result.words) c.args.seat c.loop-v.into (at_end (slots_items c.close_with-closed.result.words) _ c.args.seat c.close_with-closed.ensures.values.2) (last_all (slots_items c.close_with-closed.result.words) c.args.seat.seen c.loop-v.into c.loop-v.v c.loop-v.invariant.last (let t = c.loop-v-test.false in let l = c.len-v-end.ensures.value in let q = c.requires.length in omega arith))

pub returns-clause-floor : goal.returns-clause-floor
returns-clause-floor c = closed_floor (slots_items c.close_with-closed.result.words) c.args.seat c.loop-v.into (at_end (slots_items c.close_with-closed.result.words) _ c.args.seat c.close_with-closed.ensures.values.2) (last_all (slots_items c.close_with-closed.result.words) c.args.seat.seen c.loop-v.into c.loop-v.v c.loop-v.invariant.last (let t = c.loop-v-test.false in let l = c.len-v-end.ensures.value in let q = c.requires.length in omega arith))
