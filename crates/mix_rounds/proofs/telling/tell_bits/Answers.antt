use Rattle.std.proofs.Common.{ℤ, refl, ap, subst, w64}
use Rattle.std.proofs.lemmas.Int.{to_z-of_z}
use Rattle.bit_domain.specs.Mixes.{Mix, dom_of, IsDomInRange}
use Rattle.mix_store.specs.Domains.{set_of}
use Rattle.mix_store.specs.Seats.{seen_of, floor_of}
use Rattle.mix_rounds.specs.Masks.{AreBitsOf}
use Rattle.mix_rounds.specs.Steps.{FitsSide, KeepsNumbers}
use Rattle.mix_rounds.proofs.MaskLaws.{kept_by_mask}
use Rattle.mix_rounds.proofs.Holding.{held_told}
use Rattle.mix_rounds.proofs.Stepping.{still, moved}
use Rattle.mix_rounds.proofs.telling.tell_bits.Goals as goal
use Rattle.mix_rounds.proofs.telling.tell_bits.Goals.{Then-keep_set, Else-keep_set}

pub keep_set-requires-clause-floor : goal.keep_set-requires-clause-floor
keep_set-requires-clause-floor c =
    let range : IsDomInRange (dom_of (seen_of c.args.seat.now) c.args.t.var) = subst IsDomInRange c.seen_dom-seen.ensures.value c.seen_dom-seen.ensures.in_range in
    let are : AreBitsOf (FitsSide c.args.t.side c.args.t.bound) c.args.base c.bits_told-mask.result =
    subst (λ (b : ℤ). AreBitsOf (FitsSide c.args.t.side c.args.t.bound) b c.bits_told-mask.result) (to_z-of_z w64 c.args.base c.ranges.base) c.bits_told-mask.ensures in
    held_told (seen_of c.args.seat.now) c.args.t.var c.args.base c.bits_told-mask.result c.requires.variable.0 c.requires.variable.1 range c.requires.base
    (floor_of c.args.seat.now) c.args.t refl are c.law_floor.ensures c.requires.tell.held

kept_then : (c : Then-keep_set) → KeepsNumbers (seen_of c.keep_set.new.seat) c.args.t
kept_then c =
    kept_by_mask (FitsSide c.args.t.side c.args.t.bound) (dom_of (seen_of c.args.seat.now) c.args.t.var) (dom_of (seen_of c.keep_set.new.seat) c.args.t.var) c.args.base c.bits_told-mask.result
    c.requires.variable.1 (subst IsDomInRange c.seen_dom-seen.ensures.value c.seen_dom-seen.ensures.in_range) c.requires.base (c.keep_set.ensures.inside.doms c.args.t.var c.requires.variable.0)
    (subst (λ (b : ℤ). AreBitsOf (FitsSide c.args.t.side c.args.t.bound) b c.bits_told-mask.result) (to_z-of_z w64 c.args.base c.ranges.base) c.bits_told-mask.ensures) c.keep_set.ensures.told

kept_else : (c : Else-keep_set) → KeepsNumbers (seen_of c.keep_set.new.seat) c.args.t
kept_else c =
    kept_by_mask (FitsSide c.args.t.side c.args.t.bound) (dom_of (seen_of c.args.seat.now) c.args.t.var) (dom_of (seen_of c.keep_set.new.seat) c.args.t.var) c.args.base c.bits_told-mask.result
    c.requires.variable.1 (subst IsDomInRange c.seen_dom-seen.ensures.value c.seen_dom-seen.ensures.in_range) c.requires.base (c.keep_set.ensures.inside.doms c.args.t.var c.requires.variable.0)
    (subst (λ (b : ℤ). AreBitsOf (FitsSide c.args.t.side c.args.t.bound) b c.bits_told-mask.result) (to_z-of_z w64 c.args.base c.ranges.base) c.bits_told-mask.ensures) c.keep_set.ensures.told

pub returns-then-keep_set : goal.returns-then-keep_set
returns-then-keep_set c = record {
  stepped = moved c.args.seat.now c.keep_set.new.seat c.args.moved.now c.keep_set.ensures.seat c.keep_set.ensures.inside
      (λ e. c.if-keep_set.ensures.changed refl (ap (λ (m : Mix). set_of m c.args.t.var) e));
  kept = kept_then c;
}

pub returns-else-keep_set : goal.returns-else-keep_set
returns-else-keep_set c = record {
  stepped = still c.args.seat.now c.keep_set.new.seat c.args.moved.now c.keep_set.ensures.seat c.keep_set.ensures.inside (c.if-keep_set.ensures.unchanged refl);
  kept = kept_else c;
}
