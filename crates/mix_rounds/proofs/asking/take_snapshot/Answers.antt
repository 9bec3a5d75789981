use Rattle.std.proofs.Common.{◌+◌, ℕ, length, set, arith, ap, subst, sym, refl, ◌∙◌}
use Rattle.std.proofs.Math.ListN.{length-set}
use Rattle.guarded_tell.specs.Kernels.{vars_of}
use Rattle.bit_domain.specs.Mixes.{Mix, dom_of, hull, Has}
use Rattle.interval.specs.Boxes.{Bounds, low_of, high_of}
use Rattle.mix_store.specs.Seats.{seen_of}
use Rattle.mix_rounds.specs.Lanes.{FitsLength}
use Rattle.mix_rounds.proofs.Snapshots.{Copied, copied_none, copied_more}
use Rattle.mix_rounds.proofs.Stepping.{stepped_none, stepped_more, seat_of_same}
use Rattle.mix_rounds.proofs.asking.take_snapshot.Goals as goal

pub loop-place-init : goal.loop-place-init
loop-place-init c = record {
  of_store = c.requires.store;
  fits = c.requires.length;
  stepped = stepped_none c.args.seat.now c.args.moved.now;
  copied = copied_none (vars_of c.args.kernel.now) (seen_of c.args.seat.now) c.args.cache.now.mix c.args.cache.now.bounds;
}

pub look-requires : goal.look-requires
look-requires c =
    let each = c.requires.kernel.variables.each c.loop-place.place (omega arith) in
    let same = c.loop-place.invariant.stepped.inside.same_length in
    record {
      store = c.loop-place.invariant.of_store;
      variable = omega (arith, c.var_at-v.ensures, each, same);
      length = subst (λ (n : ℕ). FitsLength n c.loop-place.cache) (sym same) c.loop-place.invariant.fits;
    }

pub loop-place-preserved : goal.loop-place-preserved
loop-place-preserved c = record {
  of_store = seat_of_same c.args.store.now c.args.store.now c.loop-place.seat c.look.new.seat c.loop-place.invariant.of_store c.look.ensures.stepped.same refl;
  fits = record {
    mix = ap length c.look.ensures.mix ∙ length-set c.loop-place.cache.mix c.var_at-v.result _ ∙ c.loop-place.invariant.fits.mix;
    bounds = ap length c.look.ensures.bounds ∙ length-set c.loop-place.cache.bounds c.var_at-v.result _ ∙ c.loop-place.invariant.fits.bounds;
  };
  stepped = stepped_more c.args.seat.now c.loop-place.seat c.look.new.seat c.args.moved.now c.loop-place.moved c.look.new.moved c.loop-place.invariant.stepped c.look.ensures.stepped;
  copied =
      let each = c.requires.kernel.variables.each c.loop-place.place (omega arith) in
      let same = c.loop-place.invariant.stepped.inside.same_length in
      subst (λ (m : Mix). Copied (vars_of c.args.kernel.now) (c.loop-place.place + 1) (seen_of c.look.new.seat) m c.look.new.cache.bounds) (sym c.look.ensures.mix)
      (subst (λ (b : Bounds). Copied (vars_of c.args.kernel.now) (c.loop-place.place + 1) (seen_of c.look.new.seat) (set c.loop-place.cache.mix c.var_at-v.result (dom_of (seen_of c.look.new.seat) c.var_at-v.result)) b) (sym c.look.ensures.bounds)
      (copied_more (seen_of c.loop-place.seat) (seen_of c.look.new.seat) c.loop-place.cache.mix c.loop-place.cache.bounds c.var_at-v.result
      (low_of (hull (seen_of c.look.new.seat)) c.var_at-v.result) (high_of (hull (seen_of c.look.new.seat)) c.var_at-v.result)
      (omega (arith, c.var_at-v.ensures, each, c.loop-place.invariant.fits.mix)) (omega (arith, c.var_at-v.ensures, each, c.loop-place.invariant.fits.bounds)) (omega (arith, c.var_at-v.ensures, each, same))
      refl refl c.look.ensures.seen (vars_of c.args.kernel.now) c.loop-place.place c.var_at-v.ensures c.if-not-look.ensures.proper c.loop-place.invariant.copied));
}

pub returns-then-not-look-clause-crossed : goal.returns-then-not-look-clause-crossed
returns-then-not-look-clause-crossed c = λ p.
    let has = p c.loop-place.place (omega arith) in
    c.if-not-look.ensures.crossed has.0 (subst (λ (v : ℕ). Has (dom_of (seen_of c.look.new.seat) v) has.0) (sym c.var_at-v.ensures) has.1)

pub returns-then-not-look-clause-length : goal.returns-then-not-look-clause-length
returns-then-not-look-clause-length c = record {
  mix = ap length c.look.ensures.mix ∙ length-set c.loop-place.cache.mix c.var_at-v.result _ ∙ c.loop-place.invariant.fits.mix;
  bounds = ap length c.look.ensures.bounds ∙ length-set c.loop-place.cache.bounds c.var_at-v.result _ ∙ c.loop-place.invariant.fits.bounds;
}

pub returns-then-not-look-clause-stepped : goal.returns-then-not-look-clause-stepped
returns-then-not-look-clause-stepped c = stepped_more c.args.seat.now c.loop-place.seat c.look.new.seat c.args.moved.now c.loop-place.moved c.look.new.moved c.loop-place.invariant.stepped c.look.ensures.stepped
