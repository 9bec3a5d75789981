use Rattle.std.proofs.Common.{ℕ, ◌≡◌, ◌+◌, ◌*◌, List, ap, ◌∙◌, sym, subst, arith, length}
use Rattle.std.specs.Prelude.{slice_index}
use Rattle.std.specs.Mem.Slots.{slots_items}
use mir.Val.{to_z, of_z}
use mir.Syntax.{w64}
use Rattle.interval.specs.Limits.{IsBound}
use Rattle.interval.specs.Boxes.{Bounds, low_of, high_of}
use Rattle.lattice_store.specs.Words.{code_of, low_value, high_value}
use Rattle.lattice_store.proofs.WordLaws.{low-bound, high-bound}
use Rattle.lattice_store.proofs.Showing.{answered}
use Rattle.lattice_store.proofs.Pairs.{at_end, word_code, origin_at, elem_index, put_next, put_length, closed_inside, closed_floor}
use Rattle.lattice_store.proofs.store.Store.close.Goals as goal

pub low_bound-low-requires : goal.low_bound-low-requires
low_bound-low-requires c =
    let end = at_end (slots_items c.close_with-closed.result.words) _ c.args.seat c.close_with-closed.ensures.values.2 c.requires.first in
    let n = end.length_is in
    let p = c.args.seat.stands.pairs in
    let q = c.requires.length in
    let t = c.loop-v-test.true in
    let l = c.len-v-end.ensures.value in
    let k = c.low_place.ensures in
    origin_at (slots_items c.close_with-closed.result.words) c.args.seat c.low_place.result c.word.result end c.word.ensures (omega arith) (omega arith)

pub high_bound-high-requires : goal.high_bound-high-requires
high_bound-high-requires c =
    let end = at_end (slots_items c.close_with-closed.result.words) _ c.args.seat c.close_with-closed.ensures.values.2 c.requires.first in
    let n = end.length_is in
    let p = c.args.seat.stands.pairs in
    let q = c.requires.length in
    let t = c.loop-v-test.true in
    let l = c.len-v-end.ensures.value in
    let k = c.high_place.ensures in
    origin_at (slots_items c.close_with-closed.result.words) c.args.seat c.high_place.result c.word-in-loop-v.result end c.word-in-loop-v.ensures (omega arith) (omega arith)

pub put-requires-clause-low_in_range : goal.put-requires-clause-low_in_range
put-requires-clause-low_in_range c =
    let end = at_end (slots_items c.close_with-closed.result.words) _ c.args.seat c.close_with-closed.ensures.values.2 c.requires.first in
    let n = end.length_is in
    let p = c.args.seat.stands.pairs in
    let q = c.requires.length in
    let t = c.loop-v-test.true in
    let l = c.len-v-end.ensures.value in
    let k = c.low_place.ensures in
    let code = word_code (slots_items c.close_with-closed.result.words) c.args.seat c.low_place.result c.word.result end c.word.ensures (omega arith) (omega arith) in
    let b = low-bound (code_of c.word.result) code.above_zero code.below_end in
    subst IsBound (sym (answered c.low_bound-low.result (low_value (code_of c.word.result)) c.low_bound-low.ensures b)) b

pub put-requires-clause-high_in_range : goal.put-requires-clause-high_in_range
put-requires-clause-high_in_range c =
    let end = at_end (slots_items c.close_with-closed.result.words) _ c.args.seat c.close_with-closed.ensures.values.2 c.requires.first in
    let n = end.length_is in
    let p = c.args.seat.stands.pairs in
    let q = c.requires.length in
    let t = c.loop-v-test.true in
    let l = c.len-v-end.ensures.value in
    let k = c.high_place.ensures in
    let code = word_code (slots_items c.close_with-closed.result.words) c.args.seat c.high_place.result c.word-in-loop-v.result end c.word-in-loop-v.ensures (omega arith) (omega arith) in
    let b = high-bound (code_of c.word-in-loop-v.result) code.above_zero code.below_end in
    subst IsBound (sym (answered c.high_bound-high.result (high_value (code_of c.word-in-loop-v.result)) c.high_bound-high.ensures b)) b

pub loop-v-preserved : goal.loop-v-preserved
loop-v-preserved c =
    let words : List ℕ = slots_items c.close_with-closed.result.words in
    let end = at_end (slots_items c.close_with-closed.result.words) _ c.args.seat c.close_with-closed.ensures.values.2 c.requires.first in
    let n = end.length_is in
    let p = c.args.seat.stands.pairs in
    let q = c.requires.length in
    let t = c.loop-v-test.true in
    let l = c.len-v-end.ensures.value in
    let kl = c.low_place.ensures in
    let kh = c.high_place.ensures in
    let cl = word_code (slots_items c.close_with-closed.result.words) c.args.seat c.low_place.result c.word.result end c.word.ensures (omega arith) (omega arith) in
    let ch = word_code (slots_items c.close_with-closed.result.words) c.args.seat c.high_place.result c.word-in-loop-v.result end c.word-in-loop-v.ensures (omega arith) (omega arith) in
    let x : to_z w64 (of_z w64 c.low_bound-low.result) ≡ low_value (code_of (slice_index (slots_items c.close_with-closed.result.words) (2 * c.loop-v.v + 1))) = answered c.low_bound-low.result (low_value (code_of c.word.result)) c.low_bound-low.ensures (low-bound (code_of c.word.result) cl.above_zero cl.below_end) ∙ ap (λ (w : ℕ). low_value (code_of w)) (sym (elem_index (slots_items c.close_with-closed.result.words) c.low_place.result c.word.result c.word.ensures) ∙ ap (slice_index (slots_items c.close_with-closed.result.words)) kl) in
    let y : to_z w64 (of_z w64 c.high_bound-high.result) ≡ high_value (code_of (slice_index (slots_items c.close_with-closed.result.words) (2 * c.loop-v.v + 2))) = answered c.high_bound-high.result (high_value (code_of c.word-in-loop-v.result)) c.high_bound-high.ensures (high-bound (code_of c.word-in-loop-v.result) ch.above_zero ch.below_end) ∙ ap (λ (w : ℕ). high_value (code_of w)) (sym (elem_index (slots_items c.close_with-closed.result.words) c.high_place.result c.word-in-loop-v.result c.word-in-loop-v.ensures) ∙ ap (slice_index (slots_items c.close_with-closed.result.words)) kh) in
    let m = c.loop-v.invariant.length_is in
    let put = c.put.ensures in record {
      length_is = ap length put ∙ put_length c.loop-v.into c.loop-v.v _ _ ∙ m;
      bounds = λ u h. subst (λ (b : Bounds). (low_of b u ≡ low_value (code_of (slice_index (slots_items c.close_with-closed.result.words) (2 * u + 1)))) × (high_of b u ≡ high_value (code_of (slice_index (slots_items c.close_with-closed.result.words) (2 * u + 2))))) (sym put)
          (put_next (slots_items c.close_with-closed.result.words) c.loop-v.into c.loop-v.v _ _ (omega arith) c.loop-v.invariant.bounds x y u h);
    }

pub returns-clause-inside : goal.returns-clause-inside
returns-clause-inside c =
    let end = at_end (slots_items c.close_with-closed.result.words) _ c.args.seat c.close_with-closed.ensures.values.2 c.requires.first in
    let t = c.loop-v-test.false in
    let l = c.len-v-end.ensures.value in
    let q = c.requires.length in
    closed_inside (slots_items c.close_with-closed.result.words) c.args.seat c.loop-v.into end (c.loop-v.invariant.length_is ∙ c.requires.length) (λ u h. c.loop-v.invariant.bounds u (omega arith))

pub returns-clause-floor : goal.returns-clause-floor
returns-clause-floor c =
    let end = at_end (slots_items c.close_with-closed.result.words) _ c.args.seat c.close_with-closed.ensures.values.2 c.requires.first in
    let t = c.loop-v-test.false in
    let l = c.len-v-end.ensures.value in
    let q = c.requires.length in
    closed_floor (slots_items c.close_with-closed.result.words) c.args.seat c.loop-v.into end (c.loop-v.invariant.length_is ∙ c.requires.length) (λ u h. c.loop-v.invariant.bounds u (omega arith))
