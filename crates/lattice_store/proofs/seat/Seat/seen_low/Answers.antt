use Rattle.std.proofs.Common.{sym, ap, ◌∙◌, subst, arith}
use Rattle.std.specs.Prelude.{slice_index}
use Rattle.interval.specs.Limits.{IsBound}
use Rattle.lattice_store.specs.Words.{code_of, low_value}
use Rattle.lattice_store.proofs.BoxLaws.{box-low}
use Rattle.lattice_store.proofs.Showing.{answered}
use Rattle.lattice_store.proofs.WordLaws.{low-bound}
use Rattle.lattice_store.proofs.seat.Seat.seen_low.Goals as goal

pub returns : goal.returns
returns c =
    let s = c.args.self.now.stands in
    let pairs = s.pairs in
    let own = s.own c.low_place.result (omega arith) (omega arith) in
    let bound : IsBound (low_value (code_of (slice_index c.args.self.now.seen.items c.low_place.result))) = low-bound _ own.code.above_zero own.code.below_end in
    let answer = answered c.low_bound.result _ (c.low_bound.ensures ∙ ap (λ w. low_value (code_of w)) c.at.ensures) bound in record {
      value = answer ∙ ap (λ k. low_value (code_of (slice_index c.args.self.now.seen.items k))) c.low_place.ensures ∙ sym (box-low c.args.self.now.seen.items c.args.v (omega arith));
      in_range = subst IsBound (sym answer) bound;
    }
