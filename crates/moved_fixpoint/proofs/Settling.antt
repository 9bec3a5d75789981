-- Rounds until one moves nothing, the box is crossed or the limit is spent.
use Rattle.std.proofs.Common.{◌≡◌, ◌≢◌, ℕ, Bool, not, ◌+◌, ◌<◌, ◌≤◌, ◌↔◌, List, length, Option, Some, None, inr, add-one, arith, ap, sym, refl, ◌∙◌, subst}
use Rattle.std.specs.List.{All}
use Rattle.std.proofs.lemmas.Int.{ints}
use Rattle.interval.specs.Boxes.{Bounds, IsProper, IsCrossed, InsideOrder, width_sum_of}
use Rattle.guarded_tell.specs.declared.kernel.Kernel.{Kernel}
use Rattle.guarded_tell.specs.Kernels.{IsClosedUnder}
use Rattle.fixpoint_laws.specs.Fixpoints.{IsClosed}
use Rattle.fixpoint_laws.specs.Rounds.{HaveRun}
use Rattle.fixpoint_laws.specs.OneRound.{LeadsIn, RoundsLead}
use Rattle.fixpoint_laws.specs.declared.limited.Limited.TheVariants.{Fixed, Failed, RoundsSpent}
use Rattle.moved_fixpoint.specs.declared.joiner.Progress.TheVariants.{Still, Moved, Crossed}
use Rattle.moved_fixpoint.specs.Moved.{Set, count_of, IsEmpty}
use Rattle.moved_fixpoint.specs.declared.rests.Rests.{Rests}
use Rattle.moved_fixpoint.specs.Resting.{AreResting, KeepStacks}
use Rattle.moved_fixpoint.specs.Asked.{AreAtRest}
use Rattle.moved_fixpoint.specs.Round.{IsRound}
use Rattle.moved_fixpoint.specs.Sweeps.{sweep_by, is_forth, SweepsLead}
use Rattle.moved_fixpoint.specs.Ends.{HasEnded}

-- where propagation from a stands after some rounds, before the next
pub record Goes (kernels : List Kernel) (limit : ℕ) (a : Bounds) (rounds : ℕ) (b : Bounds) (m : Set) (rests : Rests) : Type 0 where
  pub proper : IsProper b
  pub run : HaveRun kernels a b
  pub first : rounds ≡ 0 → b ≡ a
  pub leads : LeadsIn kernels rounds a b
  pub widths : rounds + width_sum_of b ≤ width_sum_of a
  pub within_limit : limit ≢ 0 → rounds < limit
  pub fit : count_of m ≡ length kernels
  pub at_rest : AreAtRest m rests b kernels
  pub sweeps : SweepsLead kernels rounds a b

-- a round that moved nothing leaves none asked, so those that aren't alert rest
pub rest_at_end : (kernels : List Kernel) (b c : Bounds) (m : Set) (rests : Rests) → IsRound kernels b c m rests Still → AreResting rests.open.current rests.alert.current c kernels
rest_at_end kernels b c m rests r =
    let then = r.at_rest tt in
    let still = r.still refl in
    record { entailed = then.entailed; dormant = λ j k h dozing. then.dormant j k h (still.2 j) dozing }

pub stacks_through : (a b c : Rests) → KeepStacks a b → KeepStacks b c → KeepStacks a c
stacks_through a b c s t = record { open_stack = t.open_stack ∙ s.open_stack; alert_stack = t.alert_stack ∙ s.alert_stack }

not_both : (b : Bounds) → IsCrossed b → IsProper b → ⊥
not_both b (v, h, c) p = omega (arith, ints, p v h)

-- lists of sweeps begin, and go on with one that moves the box
sweeps_none : (kernels : List Kernel) (a : Bounds) → SweepsLead kernels 0 a a
unfolding SweepsLead
sweeps_none kernels a = refl

sweeps_more : (kernels : List Kernel) (rounds : ℕ) (a b c : Bounds) → SweepsLead kernels rounds a b → sweep_by (is_forth rounds) kernels b ≡ Some c → b ≢ c → SweepsLead kernels (rounds + 1) a c
unfolding SweepsLead
sweeps_more kernels rounds a b c lead step moves = subst (λ (n : ℕ). SweepsLead kernels n a c) (sym (add-one rounds)) (b, lead, step, moves)

-- the other way by turns
pub turns_on : (up : Bool) (rounds : ℕ) → up ≡ is_forth rounds → not up ≡ is_forth (rounds + 1)
unfolding is_forth
turns_on up rounds e = ap not e ∙ ap is_forth (sym (add-one rounds))

module _ (order : InsideOrder) (lead : RoundsLead) (kernels : List Kernel) (limit : ℕ) (a : Bounds) where
  pub goes_first : (m : Set) (rests : Rests) → IsProper a → count_of m ≡ length kernels → AreAtRest m rests a kernels → Goes kernels limit a 0 a m rests
  goes_first m rests proper fit at_rest = record {
    proper = proper;
    run = record { inside = order.itself a; keeps_closed = λ c closed i. i };
    first = λ e. refl;
    leads = lead.none kernels a;
    widths = omega arith;
    within_limit = λ ne. zero_below limit ne;
    fit = fit;
    at_rest = at_rest;
    sweeps = sweeps_none kernels a;
  } where
    zero_below : (l : ℕ) → l ≢ 0 → 0 < l
    zero_below l ne = omega arith

  module _ (rounds : ℕ) (b : Bounds) (m : Set) (rests : Rests) (g : Goes kernels limit a rounds b m rests) (up : Bool) (turn : up ≡ is_forth rounds) where
    proper_start : IsProper a
    proper_start = order.outer_is_proper b a g.proper g.run.inside

    never_zero : (r : ℕ) → (r + 1 ≡ 0) ↔ IsCrossed a
    never_zero r = ((λ e. absurd (omega arith)), (λ x. absurd (not_both a x proper_start)))

    module _ (c : Bounds) (m' : Set) (rests' : Rests) where
      run_on : HaveRun kernels b c → HaveRun kernels a c
      run_on r = record {
        inside = order.through c b a r.inside g.run.inside;
        keeps_closed = λ x closed j. r.keeps_closed x closed (g.run.keeps_closed x closed j);
      }

      -- the round was the sweep whose turn it was
      in_turn : (o : Option Bounds) → sweep_by up kernels b ≡ o → sweep_by (is_forth rounds) kernels b ≡ o
      in_turn o step = subst (λ (t : Bool). sweep_by t kernels b ≡ o) turn step

      -- a round that moved nothing
      pub ended_fixed : IsRound kernels b c m' rests' Still → sweep_by up kernels b ≡ Some c → HasEnded kernels limit a c (Fixed (rounds + 1))
      ended_fixed r step = record {
        same_length = all_run.inside.same_length;
        fixed = record { closed = closed; inside = all_run.inside; greatest = all_run.keeps_closed };
        failed = tt;
        crossed = tt;
        spent = tt;
        at_once = never_zero rounds;
        in_one_round = (
          (λ e. let z : rounds ≡ 0 = omega arith in subst (λ (x : Bounds). IsClosed x kernels) (still.0 ∙ g.first z) closed),
          (λ start. let w : width_sum_of b ≡ width_sum_of a = ap width_sum_of (order.equal b a g.run.inside (g.run.keeps_closed a start (order.itself a))) in let v = g.widths in omega arith),
        );
        unmoved = λ e. let z : rounds ≡ 0 = omega arith in still.0 ∙ g.first z;
        fixed_rounds = let w : width_sum_of c ≡ width_sum_of b = ap width_sum_of still.0 in let v = g.widths in omega arith;
        rounds = λ p. let v = g.widths in omega arith;
        within_limit = λ ne. let v = g.within_limit ne in omega arith;
        swept = (
          rounds,
          add-one rounds,
          subst (λ (x : Bounds). SweepsLead kernels rounds a x) (sym still.0) g.sweeps,
          subst (λ (x : Bounds). sweep_by (is_forth rounds) kernels x ≡ Some c) (sym still.0) (in_turn (Some c) step),
        );
      } where
        all_run : HaveRun kernels a c
        all_run = run_on r.run

        still : (c ≡ b) × All (λ k. IsClosedUnder k c) kernels × IsEmpty m'
        still = r.still refl

        closed : IsClosed c kernels
        closed = record { proper = r.proper tt; quiet = still.1 }

      -- a round that crossed the box
      pub ended_failed : IsRound kernels b c m' rests' Crossed → sweep_by up kernels b ≡ None → HasEnded kernels limit a c (Failed (rounds + 1))
      ended_failed r step = record {
        same_length = all_run.inside.same_length;
        fixed = tt;
        failed = λ x closed i. not_both c (r.crossed refl) (order.outer_is_proper x c closed.proper (all_run.keeps_closed x closed i));
        crossed = r.crossed refl;
        spent = tt;
        at_once = never_zero rounds;
        in_one_round = tt;
        unmoved = tt;
        fixed_rounds = tt;
        rounds = λ p. let v = g.widths in omega arith;
        within_limit = λ ne. let v = g.within_limit ne in omega arith;
        swept = inr (rounds, b, add-one rounds, g.sweeps, in_turn None step);
      } where
        all_run : HaveRun kernels a c
        all_run = run_on r.run

      module _ (r : IsRound kernels b c m' rests' Moved) (step : sweep_by up kernels b ≡ Some c) where
        moved_proper : IsProper c
        moved_proper = r.proper tt

        pub falls : width_sum_of c < width_sum_of b
        falls = order.narrower c b moved_proper r.run.inside (r.moves refl)

        leads_on : LeadsIn kernels (rounds + 1) a c
        leads_on = lead.more kernels rounds a b c g.leads (record { inside = r.run.inside; moved = λ e. r.moves refl (sym e); each = r.heard tt })

        sweeps_on : SweepsLead kernels (rounds + 1) a c
        sweeps_on = sweeps_more kernels rounds a b c g.sweeps (in_turn (Some c) step) (λ e. r.moves refl (sym e))

        -- the last of the limit's rounds
        pub ended_spent : limit ≢ 0 → rounds + 1 ≡ limit → HasEnded kernels limit a c (RoundsSpent (rounds + 1))
        ended_spent ne e = record {
          same_length = all_run.inside.same_length;
          fixed = tt;
          failed = tt;
          crossed = tt;
          spent = record {
            limited = ne;
            at_limit = e;
            proper = moved_proper;
            keeps_closed = all_run.keeps_closed;
            leads = leads_on;
            few = let v = g.widths in let f = falls in omega arith;
          };
          at_once = never_zero rounds;
          in_one_round = tt;
          unmoved = tt;
          fixed_rounds = tt;
          rounds = λ p. let v = g.widths in omega arith;
          within_limit = λ ne. omega arith;
          swept = sweeps_on;
        } where
          all_run : HaveRun kernels a c
          all_run = run_on r.run

        -- the next round asks for what is asked at the end of this one
        pub goes_on : (limit ≢ 0 → rounds + 1 ≢ limit) → Goes kernels limit a (rounds + 1) c m' rests'
        goes_on below = record {
          proper = moved_proper;
          run = run_on r.run;
          first = λ z. absurd (omega arith);
          leads = leads_on;
          widths = let v = g.widths in let f = falls in omega arith;
          within_limit = λ ne. below_limit (g.within_limit ne) (below ne);
          fit = r.same_count;
          at_rest = r.at_rest tt;
          sweeps = sweeps_on;
        } where
          below_limit : rounds < limit → rounds + 1 ≢ limit → rounds + 1 < limit
          below_limit l ne = omega arith
