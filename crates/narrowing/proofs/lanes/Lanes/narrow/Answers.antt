use Rattle.std.proofs.Common.{subst, sym}
use Rattle.interval.specs.Boxes.{Bounds}
use Rattle.fixpoint_laws.specs.Fixpoints.{IsGreatest}
use Rattle.narrowing.specs.declared.narrowed.Narrowed.{Narrowed}
use Rattle.narrowing.specs.Narrowing.{IsNarrowed}
use Rattle.narrowing.proofs.Copies.{between_runs, on_any_err}
use Rattle.narrowing.proofs.LaneEnds.{lanes_fixed, lanes_failed, lanes_given_up}
use Rattle.narrowing.proofs.lanes.Lanes.narrow.Goals as goal

pub returns-in_ok-take_bounds-in-Fixed-clause-narrowed : goal.returns-in_ok-take_bounds-in-Fixed-clause-narrowed
returns-in_ok-take_bounds-in-Fixed-clause-narrowed g c =
    let kernels = c.args.what.now.kernels.now in
    let limit = c.args.what.now.round_limit in
    let ending = Narrowed.Fixed c.in-Fixed.rounds in
    let fixed = lanes_fixed kernels limit c.current.result.now c.propagate.new.into c.in_ok-rounds.field-0 c.in_ok-rounds.ensures.ended c.in-Fixed.rounds c.in-Fixed.is in
    let here = subst (λ (start : Bounds). IsNarrowed kernels limit start c.propagate.new.into ending) c.current.ensures fixed in
    subst (λ (after : Bounds). IsNarrowed kernels limit c.args.b.now.current after ending) (sym c.in_ok-take_bounds-in-Fixed.ensures.current) here

pub returns-in_err-take_bounds-in-Fixed-clause-err : goal.returns-in_err-take_bounds-in-Fixed-clause-err
returns-in_err-take_bounds-in-Fixed-clause-err g c =
    let kernels = c.args.what.now.kernels.now in
    let fixed = lanes_fixed kernels c.args.what.now.round_limit c.current.result.now c.propagate.new.into c.in_ok-rounds.field-0 c.in_ok-rounds.ensures.ended c.in-Fixed.rounds c.in-Fixed.is in
    let greatest = subst (λ (start : Bounds). IsGreatest c.propagate.new.into start kernels) c.current.ensures fixed.0 in
    on_any_err _ (between_runs c.law_inside_order.ensures kernels c.propagate.new.into c.take_bounds.new.b.current c.args.b.now.current greatest
    (c.in_err-take_bounds-in-Fixed.ensures.inside greatest.inside) (c.in_err-take_bounds-in-Fixed.ensures.around greatest.inside))

pub returns-in-Failed-clause-narrowed : goal.returns-in-Failed-clause-narrowed
returns-in-Failed-clause-narrowed g c =
    let kernels = c.args.what.now.kernels.now in
    let limit = c.args.what.now.round_limit in
    subst (λ (start : Bounds). IsNarrowed kernels limit start c.propagate.new.into (Narrowed.Failed c.in-Failed.rounds)) c.current.ensures
    (lanes_failed kernels limit c.current.result.now c.propagate.new.into c.in_ok-rounds.field-0 c.in_ok-rounds.ensures.ended c.in-Failed.rounds c.in-Failed.is)

pub returns-in-RoundsSpent-clause-narrowed : goal.returns-in-RoundsSpent-clause-narrowed
returns-in-RoundsSpent-clause-narrowed g c =
    let kernels = c.args.what.now.kernels.now in
    let limit = c.args.what.now.round_limit in
    subst (λ (start : Bounds). IsNarrowed kernels limit start c.propagate.new.into (Narrowed.GivenUp c.in-RoundsSpent.rounds)) c.current.ensures
    (lanes_given_up kernels limit c.current.result.now c.propagate.new.into c.in_ok-rounds.field-0 c.in_ok-rounds.ensures.ended c.in-RoundsSpent.rounds
    c.law_inside_order.ensures c.law_rounds_lead.ensures c.in-RoundsSpent.is)
