use Rattle.std.proofs.Common.{ℕ, ◌≡◌, ◌+◌, ◌*◌, ◌≤◌, sym, ap, ◌∙◌, subst}
use Rattle.std.specs.Prelude.{slice_index}
use Rattle.std.specs.Mem.Slots.{slots_items}
use mir.Val.{to_z, of_z}
use mir.Syntax.{w64}
use Rattle.interval.specs.Limits.{bound_limit}
use Rattle.bit_domain.specs.declared.dom.Dom.{Dom}
use Rattle.bit_domain.specs.declared.dom.Dom.TheVariants.{Bits, Pair}
use Rattle.bit_domain.specs.Mixes.{IsDomInRange}
use Rattle.mix_store.specs.Words.{bound_at, read_of}
use Rattle.mix_store.specs.Domains.{IsPair}
use Rattle.mix_store.proofs.DistanceLaws.{cast_bound}
use Rattle.mix_store.proofs.Closing.{elem_index}
use Rattle.mix_store.proofs.close.last_dom.Goals as goal

pub bound_of-requires : goal.bound_of-requires
bound_of-requires c = subst (λ (n : ℕ). n ≤ 2 * bound_limit) (elem_index (slots_items c.args.closed.now.words) c.args.k c.word-in-Pair.result c.word-in-Pair.ensures) (c.requires.pair (subst IsPair (sym c.in-Pair.is) tt)).1

pub bound_of-requires-in-Pair : goal.bound_of-requires-in-Pair
bound_of-requires-in-Pair c = subst (λ (n : ℕ). n ≤ 2 * bound_limit) (elem_index (slots_items c.args.closed.now.words) (c.args.k + 1) c.word-in-Pair-2.result c.word-in-Pair-2.ensures) (c.requires.pair (subst IsPair (sym c.in-Pair.is) tt)).2

pub returns-in-Bits : goal.returns-in-Bits
returns-in-Bits c =
    let base = cast_bound c.in-Bits.base (subst IsDomInRange c.in-Bits.is c.requires.dom).0 in
    let word = sym (elem_index (slots_items c.args.closed.now.words) c.args.k c.word.result c.word.ensures) in
    (λ i. Bits (base i) (word i)) ∙ ap (λ (d : Dom). read_of d (slice_index (slots_items c.args.closed.now.words) c.args.k) (slice_index (slots_items c.args.closed.now.words) (c.args.k + 1))) (sym c.in-Bits.is)

pub returns-in-Pair : goal.returns-in-Pair
returns-in-Pair c =
    let low : to_z w64 (of_z w64 c.bound_of.result) ≡ bound_at (slice_index (slots_items c.args.closed.now.words) c.args.k) = cast_bound c.bound_of.result c.bound_of.ensures.in_range ∙ c.bound_of.ensures.value ∙ ap bound_at (sym (elem_index (slots_items c.args.closed.now.words) c.args.k c.word-in-Pair.result c.word-in-Pair.ensures)) in
    let high : to_z w64 (of_z w64 c.bound_of-in-Pair.result) ≡ bound_at (slice_index (slots_items c.args.closed.now.words) (c.args.k + 1)) = cast_bound c.bound_of-in-Pair.result c.bound_of-in-Pair.ensures.in_range ∙ c.bound_of-in-Pair.ensures.value ∙ ap bound_at (sym (elem_index (slots_items c.args.closed.now.words) (c.args.k + 1) c.word-in-Pair-2.result c.word-in-Pair-2.ensures)) in
    (λ i. Pair (low i) (high i)) ∙ ap (λ (d : Dom). read_of d (slice_index (slots_items c.args.closed.now.words) c.args.k) (slice_index (slots_items c.args.closed.now.words) (c.args.k + 1))) (sym c.in-Pair.is)
