use Rattle.std.proofs.Common.{sym, ap, ◌∙◌, subst, arith}
use Rattle.std.specs.Prelude.{slice_index}
use Rattle.interval.specs.Limits.{IsBound}
use Rattle.lattice_store.specs.Words.{code_of, high_value}
use Rattle.lattice_store.proofs.BoxLaws.{box-high}
use Rattle.lattice_store.proofs.Showing.{answered}
use Rattle.lattice_store.proofs.WordLaws.{high-bound}
use Rattle.lattice_store.proofs.seat.Seat.seen_high.Goals as goal

pub returns : goal.returns
returns c =
    let s = c.args.self.now.stands in
    let pairs = s.pairs in
    let own = s.own c.high_place.result (omega arith) (omega arith) in
    let bound : IsBound (high_value (code_of (slice_index c.args.self.now.seen.items c.high_place.result))) = high-bound _ own.code.above_zero own.code.below_end in
    let answer = answered c.high_bound.result _ (c.high_bound.ensures ∙ ap (λ w. high_value (code_of w)) c.at.ensures) bound in record {
      value = answer ∙ ap (λ k. high_value (code_of (slice_index c.args.self.now.seen.items k))) c.high_place.ensures ∙ sym (box-high c.args.self.now.seen.items c.args.v (omega arith));
      in_range = subst IsBound (sym answer) bound;
    }
