-- How propagation that asks what moved ends, as a narrower says it.
use Rattle.std.proofs.Common.{◌≡◌, ◌≢◌, ◌≤◌, ℕ, ◌↔◌, List, subst, ap}
use Rattle.interval.specs.Boxes.{Bounds, IsProper}
use Rattle.guarded_tell.specs.declared.kernel.Kernel.{Kernel}
use Rattle.fixpoint_laws.specs.Fixpoints.{IsClosed, IsGreatest, Fails}
use Rattle.fixpoint_laws.specs.OneRound.{LeadsIn}
use Rattle.fixpoint_laws.specs.LimitedEnds.{IfFixedIn, IfFailedIn, IfSpent, rounds_run}
use Rattle.fixpoint_laws.specs.declared.limited.Limited.{Limited}
use Rattle.fixpoint_laws.specs.declared.limited.Limited.TheVariants.{Fixed, Failed, RoundsSpent}
use Rattle.moved_fixpoint.specs.Ends.{HasEnded, AreSpent}
use Rattle.moved_fixpoint.specs.Sweeps.{HasSwept, SweepsLead, SweepsDecide}
use Rattle.narrowing.specs.declared.narrowed.Narrowed.{Narrowed}
use Rattle.narrowing.specs.Narrowing.{AreFew, IsNarrowed, IsNarrowedAlone}

module _ (kernels : List Kernel) (limit : ℕ) (start after : Bounds) (ending : Limited) (ended : HasEnded kernels limit start after ending) (rounds : ℕ) where
  few : rounds_run ending ≡ rounds → AreFew limit start rounds
  few e = subst (AreFew limit start) e (record { at_once = ended.at_once; few = ended.rounds; within = ended.within_limit })

  rounds_of : (other : Limited) → ending ≡ other → rounds_run ending ≡ rounds_run other
  rounds_of other e = ap rounds_run e

  pub alone_fixed : ending ≡ Fixed rounds → IsNarrowed kernels limit start after (Narrowed.Fixed rounds)
  alone_fixed e = (
    subst (λ (x : Limited). IfFixedIn x (λ r. IsGreatest after start kernels)) e ended.fixed,
    subst (λ (x : Limited). IfFixedIn x (λ r. (r ≡ 1) ↔ IsClosed start kernels)) e ended.in_one_round,
    few (rounds_of (Fixed rounds) e),
  )

  pub alone_failed : ending ≡ Failed rounds → IsNarrowed kernels limit start after (Narrowed.Failed rounds)
  alone_failed e = (subst (λ (x : Limited). IfFailedIn x (λ r. Fails start kernels)) e ended.failed, few (rounds_of (Failed rounds) e))

  pub alone_given_up : ending ≡ RoundsSpent rounds → IsNarrowed kernels limit start after (Narrowed.GivenUp rounds)
  alone_given_up e =
      let spent : AreSpent kernels limit start after rounds = subst (λ (x : Limited). IfSpent x (AreSpent kernels limit start after)) e ended.spent in (
        record {
          limited = spent.limited;
          into = after;
          leads = subst (λ (n : ℕ). LeadsIn kernels n start after) spent.at_limit spent.leads;
          proper = spent.proper;
          holds = spent.keeps_closed;
        },
        spent.at_limit,
        few (rounds_of (RoundsSpent rounds) e),
      )

  -- ---- by sweeps
  swept_of : (other : Limited) → ending ≡ other → HasSwept kernels start after other
  swept_of other e = subst (HasSwept kernels start after) e ended.swept

  within : rounds_run ending ≡ rounds → limit ≢ 0 → rounds ≤ limit
  within e limited = let w = few e in w.within limited

  pub sweeps_fixed : SweepsDecide → ending ≡ Fixed rounds → IsNarrowedAlone kernels limit start (Narrowed.Fixed rounds)
  sweeps_fixed decide e spends = decide.fixed kernels limit rounds start after (within (rounds_of (Fixed rounds) e) spends.limited) (swept_of (Fixed rounds) e) spends

  pub sweeps_failed : SweepsDecide → IsProper start → ending ≡ Failed rounds → IsNarrowedAlone kernels limit start (Narrowed.Failed rounds)
  sweeps_failed decide proper e spends = decide.failed kernels limit rounds start after proper (within (rounds_of (Failed rounds) e) spends.limited) (swept_of (Failed rounds) e) spends

  pub sweeps_given_up : ending ≡ RoundsSpent rounds → IsNarrowedAlone kernels limit start (Narrowed.GivenUp rounds)
  sweeps_given_up e =
      let spent : AreSpent kernels limit start after rounds = subst (λ (x : Limited). IfSpent x (AreSpent kernels limit start after)) e ended.spent in
      record {
        limited = spent.limited;
        into = after;
        lead = subst (λ (n : ℕ). SweepsLead kernels n start after) spent.at_limit (swept_of (RoundsSpent rounds) e);
      }
