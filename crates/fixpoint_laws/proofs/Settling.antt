-- Rounds until one moves nothing or the box is crossed.
use Rattle.std.proofs.Common.{◌≡◌, ◌≢◌, ℕ, ◌+◌, ◌<◌, ◌≤◌, ◌↔◌, List, arith, ap, refl, subst}
use Rattle.interval.specs.Boxes.{Bounds, IsProper, InsideOrder, width_sum_of}
use Rattle.guarded_tell.specs.declared.kernel.Kernel.{Kernel}
use Rattle.fixpoint_laws.specs.Fixpoints.{IsClosed}
use Rattle.fixpoint_laws.specs.Rounds.{HaveRun}
use Rattle.fixpoint_laws.proofs.Running.{none_run, rounds_more, closed_stays}

-- where propagation from a stands after some rounds, before the next
pub record Goes (kernels : List Kernel) (a : Bounds) (rounds : ℕ) (b : Bounds) : Type 0 where
  pub proper : IsProper b
  pub run : HaveRun kernels a b
  pub first : rounds ≡ 0 → b ≡ a
  pub widths : rounds + width_sum_of b ≤ width_sum_of a

pub goes_first : InsideOrder → (kernels : List Kernel) (a : Bounds) → IsProper a → Goes kernels a 0 a
goes_first order kernels a p = record { proper = p; run = none_run order kernels a; first = λ e. refl; widths = omega arith }

module _ (order : InsideOrder) (kernels : List Kernel) (a b : Bounds) (rounds : ℕ) (g : Goes kernels a rounds b) where
  pub goes_on : (c : Bounds) → HaveRun kernels b c → c ≢ b → IsProper c → Goes kernels a (rounds + 1) c
  goes_on c r ne p = record {
    proper = p;
    run = rounds_more order kernels a b c g.run r;
    first = λ e. absurd (omega arith);
    widths = let less : width_sum_of c < width_sum_of b = order.narrower c b p r.inside ne in let w = g.widths in omega arith;
  }

  -- a start that is closed takes one round, and only such a start
  pub one_round : IsClosed b kernels → (rounds + 1 ≡ 1) ↔ IsClosed a kernels
  one_round closed = (
    (λ e. let z : rounds ≡ 0 = omega arith in subst (λ (x : Bounds). IsClosed x kernels) (g.first z) closed),
    (λ start. let w : width_sum_of b ≡ width_sum_of a = ap width_sum_of (closed_stays order kernels a b g.run start) in let v = g.widths in omega arith),
  )

  pub unmoved : rounds + 1 ≡ 1 → b ≡ a
  unmoved e = let z : rounds ≡ 0 = omega arith in g.first z
