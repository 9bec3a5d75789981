use Rattle.std.proofs.Common.{◌<◌, ◌+◌, length, arith, ap, subst, sym, refl, ◌∙◌}
use Rattle.interval.specs.Boxes.{Bounds}
use Rattle.guarded_tell.specs.Kernels.{vars_of}
use Rattle.lattice_store.specs.Seats.{seen_of}
use Rattle.rounds.proofs.Snapshots.{Copied, copied_none, copied_more, crossed_in}
use Rattle.rounds.proofs.BoxLaws.{length_put}
use Rattle.rounds.proofs.Stepping.{stepped_none, stepped_more}
use Rattle.rounds.proofs.TellingAll.{seat_of_same}
use Rattle.rounds.proofs.share.take_snapshot.Goals as goal
use Rattle.rounds.proofs.share.take_snapshot.Goals.{Else-not-look}

pub loop-place-init : goal.loop-place-init
loop-place-init c = record {
  of_store = c.requires.store;
  length_is = c.requires.length;
  stepped = stepped_none c.args.seat.now c.args.moved.now;
  copied = copied_none (vars_of c.args.kernel.now) (seen_of c.args.seat.now) c.args.snapshot.now;
}

pub look-requires-clause-store : goal.look-requires-clause-store
look-requires-clause-store c = c.loop-place.invariant.of_store

pub look-requires-clause-variable : goal.look-requires-clause-variable
look-requires-clause-variable c =
    let each = c.requires.kernel.variables.each c.loop-place.place (omega arith) in
    omega (arith, c.var_at-v.ensures, c.loop-place.invariant.stepped.inside.same_length)

pub look-requires-clause-length : goal.look-requires-clause-length
look-requires-clause-length c = c.loop-place.invariant.length_is ∙ sym c.loop-place.invariant.stepped.inside.same_length

pub loop-place-preserved : goal.loop-place-preserved
loop-place-preserved c = record {
  of_store = seat_of_same c.args.store.now c.args.store.now c.loop-place.seat c.look.new.seat c.loop-place.invariant.of_store c.look.ensures.stepped.same refl;
  length_is = ap length c.look.ensures.snapshot ∙ length_put c.loop-place.snapshot c.var_at-v.result _ _ ∙ c.loop-place.invariant.length_is;
  stepped = stepped_more c.args.seat.now c.loop-place.seat c.look.new.seat c.args.moved.now c.loop-place.moved c.look.new.moved c.loop-place.invariant.stepped c.look.ensures.stepped;
  copied = copied c;
}
  where
    bound : (c : Else-not-look) → c.var_at-v.result < length c.loop-place.snapshot
    bound c =
        let each = c.requires.kernel.variables.each c.loop-place.place (omega arith) in
        omega (arith, c.var_at-v.ensures, c.loop-place.invariant.length_is)

    copied : (c : Else-not-look) → Copied (vars_of c.args.kernel.now) (c.loop-place.place + 1) (seen_of c.look.new.seat) c.look.new.snapshot
    copied c =
        subst (λ (b : Bounds). Copied (vars_of c.args.kernel.now) (c.loop-place.place + 1) (seen_of c.look.new.seat) b) (sym c.look.ensures.snapshot)
        (copied_more (vars_of c.args.kernel.now) c.loop-place.place (seen_of c.loop-place.seat) (seen_of c.look.new.seat) c.loop-place.snapshot c.var_at-v.result
        (bound c) c.var_at-v.ensures c.look.ensures.seen c.if-not-look.ensures.proper c.loop-place.invariant.copied)

pub returns-then-not-look-clause-stepped : goal.returns-then-not-look-clause-stepped
returns-then-not-look-clause-stepped c = stepped_more c.args.seat.now c.loop-place.seat c.look.new.seat c.args.moved.now c.loop-place.moved c.look.new.moved c.loop-place.invariant.stepped c.look.ensures.stepped

pub returns-then-not-look-clause-length : goal.returns-then-not-look-clause-length
returns-then-not-look-clause-length c = ap length c.look.ensures.snapshot ∙ length_put c.loop-place.snapshot c.var_at-v.result _ _ ∙ c.loop-place.invariant.length_is

pub returns-then-not-look-clause-crossed : goal.returns-then-not-look-clause-crossed
returns-then-not-look-clause-crossed c = λ p.
    crossed_in (vars_of c.args.kernel.now) c.loop-place.place c.var_at-v.result (seen_of c.look.new.seat) (omega arith) c.var_at-v.ensures c.if-not-look.ensures.crossed p
