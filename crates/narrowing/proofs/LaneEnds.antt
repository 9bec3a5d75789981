-- How propagation by lanes ends, as a narrower says it.
use Rattle.std.proofs.Common.{◌≡◌, ℕ, List, sym, subst, ◌∙◌, arith}
use Rattle.std.proofs.lemmas.Int.{ints}
use Rattle.interval.specs.Boxes.{Bounds, IsProper, IsCrossed, InsideOrder}
use Rattle.guarded_tell.specs.declared.kernel.Kernel.{Kernel}
use Rattle.fixpoint_laws.specs.OneRound.{LeadsIn, RoundsLead}
use Rattle.fixpoint_laws.specs.declared.limited.Limited.{Limited}
use Rattle.fixpoint_laws.specs.declared.limited.Limited.TheVariants.{Fixed, Failed, RoundsSpent}
use Rattle.rounds.specs.Ends.{HasEnded, HasFixed, HasFailed, HasSpent, IsWithin}
use Rattle.narrowing.specs.declared.narrowed.Narrowed.{Narrowed}
use Rattle.narrowing.specs.Narrowing.{AreFew, IsNarrowed}

not_both : (b : Bounds) → IsCrossed b → IsProper b → ⊥
not_both b (v, h, c) p = omega (arith, ints, p v h)

-- the rounds that were spent are those of a proper start
few_spent : InsideOrder → RoundsLead → (kernels : List Kernel) (limit : ℕ) (start after : Bounds) (rounds : ℕ) → HasSpent kernels start after limit rounds → AreFew limit start rounds
few_spent order lead kernels limit start after rounds spent = record {
  at_once = (
    λ e. absurd (spent.limited (sym spent.all ∙ e)),
    λ crossed. absurd (not_both start crossed (order.outer_is_proper after start spent.proper (lead.inside kernels rounds start after spent.leads))),
  );
  few = λ proper. omega (arith, spent.all, spent.widths);
  within = λ limited. omega (arith, spent.all);
}

module _ (kernels : List Kernel) (limit : ℕ) (start after : Bounds) (ending : Limited) (ended : HasEnded kernels start after limit ending) (rounds : ℕ) where
  pub lanes_fixed : ending ≡ Fixed rounds → IsNarrowed kernels limit start after (Narrowed.Fixed rounds)
  lanes_fixed e =
      let fixed : HasFixed kernels start after rounds × IsWithin limit rounds = subst (λ (x : Limited). HasEnded kernels start after limit x) e ended in (
        fixed.0.greatest,
        fixed.0.in_one_round,
        record { at_once = fixed.0.at_once; few = λ proper. omega (arith, fixed.0.fixed_rounds); within = fixed.1 },
      )

  pub lanes_failed : ending ≡ Failed rounds → IsNarrowed kernels limit start after (Narrowed.Failed rounds)
  lanes_failed e =
      let failed : HasFailed kernels start rounds × IsCrossed after × IsWithin limit rounds = subst (λ (x : Limited). HasEnded kernels start after limit x) e ended in
      (failed.0.fails, record { at_once = failed.0.at_once; few = failed.0.rounds_are; within = failed.2 })

  pub lanes_given_up : InsideOrder → RoundsLead → ending ≡ RoundsSpent rounds → IsNarrowed kernels limit start after (Narrowed.GivenUp rounds)
  lanes_given_up order lead e =
      let spent : HasSpent kernels start after limit rounds = subst (λ (x : Limited). HasEnded kernels start after limit x) e ended in (
        record {
          limited = spent.limited;
          into = after;
          leads = subst (λ (n : ℕ). LeadsIn kernels n start after) spent.all spent.leads;
          proper = spent.proper;
          holds = spent.holds;
        },
        spent.all,
        few_spent order lead kernels limit start after rounds spent,
      )
