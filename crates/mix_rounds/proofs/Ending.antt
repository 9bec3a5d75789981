-- How rounds over mixes end.
use Rattle.std.proofs.Common.{◌≡◌, ◌≢◌, ℕ, ◌+◌, ◌*◌, ◌^◌, ◌<◌, ◌≤◌, Bool, true, false, List, length, get_or, refl, sym, ap, subst, arith}
use Rattle.std.specs.Prelude.{Option, None, Some, IfSome, MatchOption}
use Rattle.std.specs.List.{All}
use Rattle.std.proofs.lemmas.Int.{ints}
use Rattle.interval.specs.Limits.{bound_limit, largest_number, box_limit}
use Rattle.interval.specs.Boxes.{IsProper, IsCrossed}
use Rattle.guarded_tell.specs.declared.kernel.Kernel.{Kernel}
use Rattle.guarded_tell.specs.Kernels.{IsKernel}
use Rattle.bit_domain.specs.Mixes.{Mix, hull, IsMixInRange, IsInsideMix}
use Rattle.domain_drops.specs.Closed.{weight_of, InsideMixOrder, IsClosedMix, IsGreatestMix, FailsMix}
use Rattle.mix_rounds.specs.Ends.{IsRound, HasFixedMix, HasFailedMix}
use Rattle.mix_rounds.specs.Heard.{WasHeard}
use Rattle.mix_rounds.specs.Lanes.{IsLawfulFloor}
use Rattle.mix_rounds.proofs.MixLaws.{inside_itself, inside_through, inside_both}
use Rattle.mix_rounds.proofs.Hearing.{Ends, DropPlace, TellPlace, closed_of}

-- the floor that is named: the greatest closed mix, or none where the start fails
abbrev pub IsAnswer : List Kernel → Mix → Option Mix → Type 0
IsAnswer kernels start floor = MatchOption floor (FailsMix start kernels) (λ g. IsGreatestMix g start kernels)

pub floor_inside : (kernels : List Kernel) (start : Mix) (floor : Option Mix) → IsAnswer kernels start floor → IfSome floor (λ f. IsInsideMix f start)
floor_inside kernels start None a = tt
floor_inside kernels start (Some g) a = a.inside

pub floor_lawful : InsideMixOrder → (kernels : List Kernel) (start : Mix) (floor : Option Mix) → IsMixInRange start → IsAnswer kernels start floor → IfSome floor (IsLawfulFloor kernels)
floor_lawful order kernels start None r a = tt
floor_lawful order kernels start (Some g) r a = λ i k h. record { in_range = order.in_range g start a.closed.proper r a.inside; closed = a.closed.quiet i k h }

both_ways : (m : Mix) → IsCrossed (hull m) → IsProper (hull m) → ⊥
both_ways m (v, h, c) p = omega (arith, ints, p v h)

-- a start that is crossed has no closed mix inside
pub crossed_fails : InsideMixOrder → (kernels : List Kernel) (start : Mix) → IsMixInRange start → IsCrossed (hull start) → FailsMix start kernels
crossed_fails order kernels start r x = λ c closed i. both_ways start x (order.outer_is_proper c start closed.proper r i)

pub failed_at_once : InsideMixOrder → (kernels : List Kernel) (start : Mix) → IsMixInRange start → IsCrossed (hull start) → HasFailedMix kernels start 0
failed_at_once order kernels start r x = record {
  fails = crossed_fails order kernels start r x;
  at_once = (λ e. x, λ y. refl);
  rounds_are = λ p. omega arith;
}

abbrev pub Lighter : Type 0
Lighter = (inner outer : Mix) → IsProper (hull inner) → IsMixInRange outer → IsInsideMix inner outer → inner ≢ outer → weight_of inner < weight_of outer

-- a weight is far less than a number of 128 bits
pub weight_fits : (m : Mix) → weight_of m ≤ box_limit * (bound_limit + bound_limit) → weight_of m < 2 ^ 100
unfolding bound_limit largest_number box_limit
weight_fits m h = omega arith

-- where the rounds from a start stand, before the next
pub record Goes (kernels : List Kernel) (start : Mix) (rounds : ℕ) (m : Mix) : Type 0 where
  pub proper : IsProper (hull m)
  pub inside : IsInsideMix m start
  pub first : rounds ≡ 0 → m ≡ start
  pub weights : rounds + weight_of m ≤ weight_of start

pub goes_first : (kernels : List Kernel) (start m : Mix) → m ≡ start → IsProper (hull start) → Goes kernels start 0 m
goes_first kernels start m e p = subst (λ (x : Mix). Goes kernels start 0 x) (sym e) (record {
  proper = p;
  inside = inside_itself start;
  first = λ z. refl;
  weights = omega arith;
})

module _ (order : InsideMixOrder) (kernels : List Kernel) (start : Mix) (range : IsMixInRange start) (all : All (IsKernel (length start)) kernels) (proper : IsProper (hull start)) (m : Mix) (rounds : ℕ) (g : Goes kernels start rounds m) where
  -- the floor is inside the closed mix that was reached, and no closed mix is outside the floor
  greatest : (floor : Option Mix) → IsAnswer kernels start floor → IfSome floor (λ f. IsInsideMix f m) → IsClosedMix m kernels → IsGreatestMix m start kernels
  greatest None a held closed = absurd (a m closed g.inside)
  greatest (Some f) a held closed = record { closed = closed; inside = g.inside; greatest = λ c k i. inside_through c f m (a.greatest c k i) held }

  settled : IsGreatestMix m start kernels → HasFixedMix kernels start m (rounds + 1)
  settled r = record {
    greatest = r;
    at_once = (λ e. absurd (omega arith), λ x. absurd (both_ways start x proper));
    in_one_round = (
      (λ e. let z : rounds ≡ 0 = omega arith in subst (λ (x : Mix). IsClosedMix x kernels) (g.first z) r.closed),
      (λ closed.
          let same : m ≡ start = inside_both m start g.inside (r.greatest start closed (inside_itself start)) in
          let w : weight_of m ≡ weight_of start = ap weight_of same in
          let v = g.weights in omega arith),
    );
    unmoved = λ e. let z : rounds ≡ 0 = omega arith in g.first z;
    rounds_are = let w = g.weights in omega arith;
  }

  pub range_now : IsMixInRange m
  range_now = order.in_range m start g.proper range g.inside

  kernels_of : All (IsKernel (length m)) kernels
  kernels_of = subst (λ (n : ℕ). All (IsKernel n) kernels) (sym g.inside.same_length) all

  -- a round that moved nothing
  pub fixed : Ends → DropPlace → TellPlace → (floor : Option Mix) (after : Mix) (mark : Bool) → IsAnswer kernels start floor → IfSome floor (λ f. IsInsideMix f m) → IsRound kernels m after mark → mark ≡ false →
      HasFixedMix kernels start after (rounds + 1)
  fixed ends drop_place place floor after mark a held r f =
      let same : after ≡ m = r.still f in
      let closed : IsClosedMix m kernels = record {
        proper = g.proper;
        quiet = λ i k h. closed_of ends drop_place place (get_or kernels i k) m m (kernels_of i k h) range_now g.proper refl
            (subst (λ (x : Mix). WasHeard m x (get_or kernels i k)) same (r.heard i k h));
      } in
      subst (λ (x : Mix). HasFixedMix kernels start x (rounds + 1)) (sym same) (settled (greatest floor a held closed))

  -- a round after which some variable has no number left
  pub failed : (floor : Option Mix) (after : Mix) → IsAnswer kernels start floor → IfSome floor (λ f. IsInsideMix f after) → IsMixInRange after → IsCrossed (hull after) → HasFailedMix kernels start (rounds + 1)
  failed None after a held r x = record {
    fails = a;
    at_once = (λ e. absurd (omega arith), λ y. absurd (both_ways start y proper));
    rounds_are = λ p. let w = g.weights in omega arith;
  }
  failed (Some f) after a held r x = absurd (both_ways after x (order.outer_is_proper f after a.closed.proper r held))

  -- a round that moved something, after which each variable has a number
  pub narrower : Lighter → (after : Mix) (mark : Bool) → IsRound kernels m after mark → mark ≡ true → IsProper (hull after) → weight_of after < weight_of m
  narrower lighter after mark r f p = lighter after m p range_now r.inside (r.moves f)

  pub goes_on : Lighter → (after : Mix) (mark : Bool) → IsRound kernels m after mark → mark ≡ true → IsProper (hull after) → Goes kernels start (rounds + 1) after
  goes_on lighter after mark r f p = record {
    proper = p;
    inside = inside_through after m start r.inside g.inside;
    first = λ z. absurd (omega arith);
    weights = let w = g.weights in let n = narrower lighter after mark r f p in omega arith;
  }
