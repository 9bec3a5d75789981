use Rattle.std.proofs.Common.{◌≡◌, ◌<◌, ◌^◌, ℕ, List, length, refl, sym, subst, ◌∙◌, arith}
use Rattle.std.specs.List.{All}
use Rattle.std.proofs.lemmas.Bool.{true≢false}
use Rattle.interval.specs.Boxes.{Bounds, IsInRange, width_sum_of}
use Rattle.guarded_tell.specs.declared.kernel.Kernel.{Kernel}
use Rattle.guarded_tell.specs.Kernels.{IsKernel}
use Rattle.fixpoint_laws.specs.Greatest.{greatest_of, GreatestIsComputed}
use Rattle.lattice_store.specs.declared.seat.Seat.{Seat}
use Rattle.lattice_store.specs.Seats.{seen_of, floor_of, IsSameSeat}
use Rattle.rounds.proofs.Ending.{IsAnswer, goes_first, floor_closed, fixed, failed, spent, narrower, goes_on}
use Rattle.rounds.proofs.Stepping.{same_itself, same_through}
use Rattle.rounds.proofs.TellingAll.{seat_of_same}
use Rattle.rounds.proofs.Widths.{widths_fit}
use Rattle.rounds.proofs.settling.settle.Goals as goal

-- the floor of the first seat, then and later, is the greatest closed box
answer : GreatestIsComputed → (start : Bounds) (kernels : List Kernel) → IsInRange start → All (IsKernel (length start)) kernels →
    (a b : Seat) → IsSameSeat a b → floor_of a ≡ greatest_of start kernels → IsAnswer kernels start (floor_of b)
answer computed start kernels r all a b s e = subst (IsAnswer kernels start) (sym (s.floor ∙ e)) (computed start kernels r all)

pub rounds-init : goal.rounds-init
rounds-init g c = record {
  same = same_itself c.args.first.now;
  snapshots = c.requires.snapshots;
  goes = goes_first c.law_rounds_lead.ensures c.args.work.now.kernels.now c.args.work.now.round_limit c.args.work.now.start.now (seen_of c.args.first.now) c.requires.seen c.requires.proper;
}

pub overflow_add-rounds : goal.overflow_add-rounds
overflow_add-rounds g c =
    let fits : width_sum_of c.args.work.now.start.now < 2 ^ 100 = widths_fit c.args.work.now.start.now c.len-len.ensures.in_range in
    grind (arith, c.rounds.invariant.goes.widths)

pub run_round-requires-clause-store : goal.run_round-requires-clause-store
run_round-requires-clause-store g c = λ ks b. seat_of_same c.args.store.now c.args.store.now c.args.first.now c.rounds.first c.requires.store c.rounds.invariant.same refl

pub run_round-requires-clause-first : goal.run_round-requires-clause-first
run_round-requires-clause-first g c = λ ks b. c.rounds.invariant.same.first ∙ c.requires.first

pub run_round-requires-clause-kernels : goal.run_round-requires-clause-kernels
run_round-requires-clause-kernels g c = λ ks b. subst (λ (n : ℕ). All (IsKernel n) c.args.work.now.kernels.now) (sym c.rounds.invariant.goes.inside.same_length) c.requires.kernels

pub run_round-requires-clause-cut : goal.run_round-requires-clause-cut
run_round-requires-clause-cut g c = λ ks b. c.requires.cut

pub run_round-requires-clause-count : goal.run_round-requires-clause-count
run_round-requires-clause-count g c = λ ks b. c.requires.count ∙ sym c.rounds.auto.lanes

pub run_round-requires-clause-snapshots : goal.run_round-requires-clause-snapshots
run_round-requires-clause-snapshots g c = λ ks b i d h. c.rounds.invariant.snapshots i d h ∙ sym c.rounds.invariant.goes.inside.same_length

pub run_round-requires-clause-floor : goal.run_round-requires-clause-floor
run_round-requires-clause-floor g c = λ ks b.
    floor_closed c.args.work.now.kernels.now c.args.work.now.start.now (floor_of c.rounds.first)
    (answer c.law_greatest_is_computed.ensures c.args.work.now.start.now c.args.work.now.kernels.now c.len-len.ensures.in_range c.requires.kernels c.args.first.now c.rounds.first c.rounds.invariant.same c.requires.floor)

pub is_seen_crossed-requires : goal.is_seen_crossed-requires
is_seen_crossed-requires g c = c.len-len.ensures.value ∙ sym (c.run_round.ensures.length ∙ c.rounds.invariant.goes.inside.same_length)

pub rounds-preserved : goal.rounds-preserved
rounds-preserved g c = record {
  same = same_through c.args.first.now c.rounds.first c.run_round.new.first c.rounds.invariant.same c.run_round.ensures.same;
  snapshots = λ i d h. c.run_round.ensures.snapshots i d h ∙ c.rounds.invariant.goes.inside.same_length;
  goes = goes_on c.args.work.now.kernels.now c.args.work.now.start.now c.requires.kernels c.requires.proper c.args.work.now.round_limit (seen_of c.rounds.first) c.rounds.rounds c.rounds.invariant.goes c.law_inside_order.ensures c.law_rounds_lead.ensures
      (seen_of c.run_round.new.first) c.in_ok-run_round.field-0 c.in_ok-run_round.ensures.round c.if-not-branch.false (c.if-is_seen_crossed.ensures.proper.0 refl)
      (λ ne e. true≢false (sym (c.is_spent.ensures.1 (ne, e)) ∙ c.if-is_spent.false));
}

pub rounds-smaller : goal.rounds-smaller
rounds-smaller g c =
    narrower c.args.work.now.kernels.now c.args.work.now.start.now c.requires.kernels c.requires.proper c.args.work.now.round_limit (seen_of c.rounds.first) c.rounds.rounds c.rounds.invariant.goes c.law_inside_order.ensures
    (seen_of c.run_round.new.first) c.in_ok-run_round.field-0 c.in_ok-run_round.ensures.round c.if-not-branch.false (c.if-is_seen_crossed.ensures.proper.0 refl)

pub returns-then-not-branch-clause-ended : goal.returns-then-not-branch-clause-ended
returns-then-not-branch-clause-ended g c =
    fixed c.args.work.now.kernels.now c.args.work.now.start.now c.requires.kernels c.requires.proper c.args.work.now.round_limit (seen_of c.rounds.first) c.rounds.rounds c.rounds.invariant.goes (floor_of c.rounds.first)
    (seen_of c.run_round.new.first) c.in_ok-run_round.field-0
    (answer c.law_greatest_is_computed.ensures c.args.work.now.start.now c.args.work.now.kernels.now c.len-len.ensures.in_range c.requires.kernels c.args.first.now c.rounds.first c.rounds.invariant.same c.requires.floor)
    c.law_floor.ensures.floor c.in_ok-run_round.ensures.round c.if-not-branch.true

pub returns-then-is_seen_crossed-clause-ended : goal.returns-then-is_seen_crossed-clause-ended
returns-then-is_seen_crossed-clause-ended g c =
    let same : IsSameSeat c.args.first.now c.run_round.new.first = same_through c.args.first.now c.rounds.first c.run_round.new.first c.rounds.invariant.same c.run_round.ensures.same in
    failed c.args.work.now.kernels.now c.args.work.now.start.now c.requires.kernels c.requires.proper c.args.work.now.round_limit (seen_of c.rounds.first) c.rounds.rounds c.rounds.invariant.goes c.law_inside_order.ensures (floor_of c.run_round.new.first)
    (seen_of c.run_round.new.first)
    (answer c.law_greatest_is_computed.ensures c.args.work.now.start.now c.args.work.now.kernels.now c.len-len.ensures.in_range c.requires.kernels c.args.first.now c.run_round.new.first same c.requires.floor)
    c.law_floor-in-rounds.ensures.floor (c.if-is_seen_crossed.ensures.crossed.0 refl)

pub returns-then-not-branch-clause-same : goal.returns-then-not-branch-clause-same
returns-then-not-branch-clause-same g c = same_through c.args.first.now c.rounds.first c.run_round.new.first c.rounds.invariant.same c.run_round.ensures.same

pub returns-then-is_seen_crossed-clause-same : goal.returns-then-is_seen_crossed-clause-same
returns-then-is_seen_crossed-clause-same g c = same_through c.args.first.now c.rounds.first c.run_round.new.first c.rounds.invariant.same c.run_round.ensures.same

pub returns-in_err-run_round-clause-same : goal.returns-in_err-run_round-clause-same
returns-in_err-run_round-clause-same g c = same_through c.args.first.now c.rounds.first c.run_round.new.first c.rounds.invariant.same c.run_round.ensures.same

pub returns-then-is_spent-clause-ended : goal.returns-then-is_spent-clause-ended
returns-then-is_spent-clause-ended g c =
    let same : IsSameSeat c.args.first.now c.run_round.new.first = same_through c.args.first.now c.rounds.first c.run_round.new.first c.rounds.invariant.same c.run_round.ensures.same in
    let all = c.is_spent.ensures.0 c.if-is_spent.true in
    spent c.args.work.now.kernels.now c.args.work.now.start.now c.requires.kernels c.requires.proper c.args.work.now.round_limit (seen_of c.rounds.first) c.rounds.rounds c.rounds.invariant.goes c.law_inside_order.ensures c.law_rounds_lead.ensures
    (floor_of c.run_round.new.first) (seen_of c.run_round.new.first) c.in_ok-run_round.field-0
    (answer c.law_greatest_is_computed.ensures c.args.work.now.start.now c.args.work.now.kernels.now c.len-len.ensures.in_range c.requires.kernels c.args.first.now c.run_round.new.first same c.requires.floor)
    c.law_floor-in-rounds.ensures.floor c.in_ok-run_round.ensures.round c.if-not-branch.false (c.if-is_seen_crossed.ensures.proper.0 refl) all.0 all.1

pub returns-then-is_spent-clause-same : goal.returns-then-is_spent-clause-same
returns-then-is_spent-clause-same g c = same_through c.args.first.now c.rounds.first c.run_round.new.first c.rounds.invariant.same c.run_round.ensures.same
