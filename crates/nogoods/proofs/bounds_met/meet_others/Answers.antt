use Rattle.std.proofs.Common.{◌∙◌, ℕ, get_or, sym, subst, arith, inl, inr}
use Rattle.std.proofs.lemmas.Bool.{cases_eq, ne_eqb}
use Rattle.std.proofs.lemmas.List.{get_or_default}
use Rattle.guarded_tell.specs.Words.{Keeps}
use Rattle.nogoods.proofs.bounds_met.meet_others.Goals as goal

pub loop-place-preserved : goal.loop-place-preserved
loop-place-preserved c = record {
  placed = c.in_ok-meet_other.ensures.all_placed;
  others = λ p i m. c.loop-place.invariant.others p i (c.in_ok-meet_other.ensures.others p i m);
  met = λ p i m k d below ne. elim (cases_eq k c.loop-place.place) [
    | inl same ↦ subst (λ (j : ℕ). Keeps p (get_or c.args.reason.now j d)) (sym same)
        (subst (Keeps p) (get_or_default c.args.reason.now c.loop-place.place _ d c.loop-place-test.true)
        (c.in_ok-meet_other.ensures.met p i m (ne_eqb c.loop-place.place c.args.own (λ e. ne (same ∙ e)))))
    | inr other ↦ c.loop-place.invariant.met p i (c.in_ok-meet_other.ensures.others p i m) k d (omega arith) ne
  ];
}
