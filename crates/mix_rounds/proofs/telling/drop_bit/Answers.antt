use Rattle.std.proofs.Common.{◌≢◌, refl, ap, subst, w64}
use Rattle.std.proofs.lemmas.Int.{to_z-of_z}
use Rattle.bit_domain.specs.Mixes.{Mix, dom_of, IsDomInRange}
use Rattle.mix_store.specs.Domains.{set_of}
use Rattle.mix_store.specs.Seats.{seen_of, floor_of}
use Rattle.mix_rounds.specs.Steps.{IsGone}
use Rattle.mix_rounds.proofs.MaskLaws.{kept_by_mask}
use Rattle.mix_rounds.proofs.Holding.{bits_wrapped, held_dropped}
use Rattle.mix_rounds.proofs.Stepping.{still, moved}
use Rattle.mix_rounds.proofs.telling.drop_bit.Goals as goal
use Rattle.mix_rounds.proofs.telling.drop_bit.Goals.{Then-keep_set, Else-keep_set}

pub keep_set-requires-clause-floor : goal.keep_set-requires-clause-floor
keep_set-requires-clause-floor c =
    let range : IsDomInRange (dom_of (seen_of c.args.seat.now) c.args.var) = subst IsDomInRange c.seen_dom-seen.ensures.value c.seen_dom-seen.ensures.in_range in
    held_dropped (seen_of c.args.seat.now) c.args.var c.args.base c.bits_without-mask.result c.requires.drop.variable.0 c.requires.drop.variable.1 range c.requires.base
    (floor_of c.args.seat.now) c.args.value (bits_wrapped c.args.base c.args.value _ _ c.bits_without-mask.result (to_z-of_z w64 c.args.base c.ranges.base) (to_z-of_z w64 c.args.value c.ranges.value) c.bits_without-mask.ensures) c.law_floor.ensures c.requires.drop.held

gone_then : (c : Then-keep_set) → IsGone (seen_of c.keep_set.new.seat) (c.args.var, c.args.value)
gone_then c has =
    kept_by_mask (λ z. z ≢ c.args.value) (dom_of (seen_of c.args.seat.now) c.args.var) (dom_of (seen_of c.keep_set.new.seat) c.args.var) c.args.base c.bits_without-mask.result
    c.requires.drop.variable.1 (subst IsDomInRange c.seen_dom-seen.ensures.value c.seen_dom-seen.ensures.in_range) c.requires.base (c.keep_set.ensures.inside.doms c.args.var c.requires.drop.variable.0)
    (bits_wrapped c.args.base c.args.value _ _ c.bits_without-mask.result (to_z-of_z w64 c.args.base c.ranges.base) (to_z-of_z w64 c.args.value c.ranges.value) c.bits_without-mask.ensures) c.keep_set.ensures.told
    c.args.value has refl

gone_else : (c : Else-keep_set) → IsGone (seen_of c.keep_set.new.seat) (c.args.var, c.args.value)
gone_else c has =
    kept_by_mask (λ z. z ≢ c.args.value) (dom_of (seen_of c.args.seat.now) c.args.var) (dom_of (seen_of c.keep_set.new.seat) c.args.var) c.args.base c.bits_without-mask.result
    c.requires.drop.variable.1 (subst IsDomInRange c.seen_dom-seen.ensures.value c.seen_dom-seen.ensures.in_range) c.requires.base (c.keep_set.ensures.inside.doms c.args.var c.requires.drop.variable.0)
    (bits_wrapped c.args.base c.args.value _ _ c.bits_without-mask.result (to_z-of_z w64 c.args.base c.ranges.base) (to_z-of_z w64 c.args.value c.ranges.value) c.bits_without-mask.ensures) c.keep_set.ensures.told
    c.args.value has refl

pub returns-then-keep_set : goal.returns-then-keep_set
returns-then-keep_set c = record {
  stepped = moved c.args.seat.now c.keep_set.new.seat c.args.moved.now c.keep_set.ensures.seat c.keep_set.ensures.inside
      (λ e. c.if-keep_set.ensures.changed refl (ap (λ (m : Mix). set_of m c.args.var) e));
  gone = gone_then c;
}

pub returns-else-keep_set : goal.returns-else-keep_set
returns-else-keep_set c = record {
  stepped = still c.args.seat.now c.keep_set.new.seat c.args.moved.now c.keep_set.ensures.seat c.keep_set.ensures.inside (c.if-keep_set.ensures.unchanged refl);
  gone = gone_else c;
}
