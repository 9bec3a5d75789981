use Rattle.std.proofs.Common.{length, sym, ap, ◌∙◌}
use Rattle.interval.specs.Boxes.{Bounds}
use Rattle.lattice_store.specs.Seats.{seen_of}
use Rattle.rounds.proofs.engine.Engine.begin.Goals as goal

pub invariant_of-self : goal.invariant_of-self
invariant_of-self c = record {
  of_store = c.open_for.ensures.seat;
  is_first = c.open_for.ensures.first;
  snapshots = λ i d h. c.reset_turns.ensures.snapshots (length (seen_of c.args.self.now.first)) c.args.self.now.snapshots i d h ∙ sym c.open_for.ensures.length;
}

pub invariant_of-self-then-is_err : goal.invariant_of-self-then-is_err
invariant_of-self-then-is_err c = record {
  of_store = c.in_ok-store.ensures.store_is;
  is_first = c.in_ok-store.ensures.first;
  snapshots = λ i d h. c.reset_turns.ensures.snapshots (length (seen_of c.args.self.now.first)) c.args.self.now.snapshots i d h ∙ sym c.requires.start ∙ sym (ap (λ (b : Bounds). length b) c.in_ok-store.ensures.seen);
}

pub invariant_of-self-else-is_err : goal.invariant_of-self-else-is_err
invariant_of-self-else-is_err c = record {
  of_store = c.open_for.ensures.seat;
  is_first = c.open_for.ensures.first;
  snapshots = λ i d h. c.reset_turns.ensures.snapshots (length (seen_of c.args.self.now.first)) c.args.self.now.snapshots i d h ∙ sym c.open_for.ensures.length;
}
