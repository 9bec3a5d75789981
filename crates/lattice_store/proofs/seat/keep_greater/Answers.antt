use Rattle.std.proofs.Common.{ℕ, ◌≡◌, ◌≢◌, max, set, sym, ◌∙◌, ap, arith, length-set, get_or-set_other}
use Rattle.std.specs.Prelude.{slice_index}
use Rattle.std.proofs.lemmas.Grind.{get_or-set_at}
use mathlib.Core.Logic.{dite}
use native.Mathlib.Decide.{ℕ_discrete}
use Rattle.lattice_store.proofs.Parting.{greater_is}
use Rattle.lattice_store.proofs.seat.keep_greater.Goals as goal

pub returns : goal.returns
returns c = greater_is c.args.seen.now.items c.args.other.now.items c.loop-k.seen.items c.requires c.loop-k.invariant.length_is (λ k l. c.loop-k.invariant.below k (omega arith))

pub loop-k-preserved : goal.loop-k-preserved
loop-k-preserved c = record {
  length_is = length-set c.loop-k.seen.items c.loop-k.k c.max-word.result ∙ c.loop-k.invariant.length_is;
  below = λ i h. dite (ℕ_discrete i c.loop-k.k)
      (λ (e : i ≡ c.loop-k.k). let a = c.loop-k.invariant.above i (omega arith) in
      let now : slice_index (set c.loop-k.seen.items c.loop-k.k c.max-word.result) i ≡ c.max-word.result = get_or-set_at c.loop-k.seen.items c.loop-k.k i c.max-word.result 0 e (omega (arith, c.loop-k.invariant.length_is)) in
      let m : c.max-word.result ≡ max (slice_index c.args.seen.now.items i) (slice_index c.args.other.now.items i) = c.max-word.ensures ∙ (λ t. max (first i e a t) (second i e t)) in
      now ∙ m)
      (λ (ne : i ≢ c.loop-k.k). get_or-set_other c.loop-k.seen.items c.loop-k.k i c.max-word.result 0 ne ∙ c.loop-k.invariant.below i (omega arith));
  above = λ i h. get_or-set_other c.loop-k.seen.items c.loop-k.k i c.max-word.result 0 (λ e. omega arith) ∙ c.loop-k.invariant.above i (omega arith);
}
  where
    first : (i : ℕ) → i ≡ c.loop-k.k → slice_index c.loop-k.seen.items i ≡ slice_index c.args.seen.now.items i → c.at.result ≡ slice_index c.args.seen.now.items i
    first i e a = c.at.ensures ∙ ap (slice_index c.loop-k.seen.items) (sym e) ∙ a

    second : (i : ℕ) → i ≡ c.loop-k.k → c.at-in-loop-k.result ≡ slice_index c.args.other.now.items i
    second i e = c.at-in-loop-k.ensures ∙ ap (slice_index c.args.other.now.items) (sym e)
