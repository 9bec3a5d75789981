-- How rounds end.
use Rattle.std.proofs.Common.{◌≡◌, ◌≢◌, ℕ, ◌+◌, ◌<◌, ◌≤◌, Bool, true, false, List, length, get_or, refl, sym, ap, subst, arith}
use Rattle.std.specs.Prelude.{Option, None, Some, IfSome, MatchOption}
use Rattle.std.specs.List.{All}
use Rattle.std.proofs.lemmas.Int.{ints}
use Rattle.interval.specs.Boxes.{Bounds, IsInside, IsProper, IsCrossed, InsideOrder, width_sum_of}
use Rattle.guarded_tell.specs.declared.kernel.Kernel.{Kernel}
use Rattle.guarded_tell.specs.Words.{IsProperIn}
use Rattle.guarded_tell.specs.Kernels.{vars_of, IsKernel, IsClosedUnder}
use Rattle.fixpoint_laws.specs.Fixpoints.{IsClosed, IsGreatest, Fails}
use Rattle.fixpoint_laws.specs.OneRound.{IsOneRound, LeadsIn, RoundsLead}
use Rattle.rounds.specs.Shares.{IsQuiet}
use Rattle.rounds.specs.Ends.{IsRound, HasFixed, HasFailed, HasSpent, IsWithin}
use Rattle.rounds.proofs.BoxLaws.{inside_itself, inside_through, inside_both}
use Rattle.rounds.proofs.Quietness.{quiet_of}

-- the floor that is named: the greatest closed box, or none where the start fails
abbrev pub IsAnswer : List Kernel → Bounds → Option Bounds → Type 0
IsAnswer kernels start floor = MatchOption floor (Fails start kernels) (λ g. IsGreatest g start kernels)

pub floor_inside : (kernels : List Kernel) (start : Bounds) (floor : Option Bounds) → IsAnswer kernels start floor → IfSome floor (λ f. IsInside f start)
floor_inside kernels start None a = tt
floor_inside kernels start (Some g) a = a.inside

pub floor_closed : (kernels : List Kernel) (start : Bounds) (floor : Option Bounds) → IsAnswer kernels start floor → IfSome floor (λ f. All (λ k. IsClosedUnder k f) kernels)
floor_closed kernels start None a = tt
floor_closed kernels start (Some g) a = a.closed.quiet

-- where the rounds from a start stand, before the next
pub record Goes (kernels : List Kernel) (limit : ℕ) (start : Bounds) (rounds : ℕ) (b : Bounds) : Type 0 where
  pub proper : IsProper b
  pub inside : IsInside b start
  pub first : rounds ≡ 0 → b ≡ start
  pub widths : rounds + width_sum_of b ≤ width_sum_of start
  pub leads : LeadsIn kernels rounds start b
  pub below : limit ≢ 0 → rounds < limit

pub goes_first : RoundsLead → (kernels : List Kernel) (limit : ℕ) (start b : Bounds) → b ≡ start → IsProper start → Goes kernels limit start 0 b
goes_first laws kernels limit start b e p = subst (λ (x : Bounds). Goes kernels limit start 0 x) (sym e) (record {
  proper = p;
  inside = inside_itself start;
  first = λ z. refl;
  widths = omega arith;
  leads = laws.none kernels start;
  below = λ ne. omega arith;
})

both_ways : (b : Bounds) → IsCrossed b → IsProper b → ⊥
both_ways b (v, h, c) p = omega (arith, ints, p v h)

-- a proper box in which all kernels are quiet is closed
closed_of : (b : Bounds) (kernels : List Kernel) → IsProper b → All (IsKernel (length b)) kernels → All (IsQuiet b) kernels → IsClosed b kernels
closed_of b kernels p all quiet = record { proper = p; quiet = λ i d h. closed_one (get_or kernels i d) (all i d h) (quiet i d h) }
  where
    closed_one : (k : Kernel) → IsKernel (length b) k → IsQuiet b k → IsClosedUnder k b
    closed_one k r q =
        let proper_in : IsProperIn (vars_of k) b = λ j h. p _ (r.variables.each j h) in
        record { proper = proper_in; kept = q proper_in }

module _ (kernels : List Kernel) (start : Bounds) (all : All (IsKernel (length start)) kernels) (proper : IsProper start) (limit : ℕ) (b : Bounds) (rounds : ℕ) (g : Goes kernels limit start rounds b) where
  -- the floor is inside the closed box that was reached, and no closed box is outside the floor
  greatest : (floor : Option Bounds) → IsAnswer kernels start floor → IfSome floor (λ f. IsInside f b) → IsClosed b kernels → IsGreatest b start kernels
  greatest None a held closed = absurd (a b closed g.inside)
  greatest (Some f) a held closed = record { closed = closed; inside = g.inside; greatest = λ c k i. inside_through c f b (a.greatest c k i) held }

  within : IsWithin limit (rounds + 1)
  within ne = let less = g.below ne in omega arith

  settled : IsGreatest b start kernels → HasFixed kernels start b (rounds + 1)
  settled r = record {
    greatest = r;
    at_once = (λ e. absurd (omega arith), λ x. absurd (both_ways start x proper));
    in_one_round = (
      (λ e. let z : rounds ≡ 0 = omega arith in subst (λ (x : Bounds). IsClosed x kernels) (g.first z) r.closed),
      (λ closed.
          let same : b ≡ start = inside_both b start g.inside (r.greatest start closed (inside_itself start)) in
          let w : width_sum_of b ≡ width_sum_of start = ap width_sum_of same in
          let v = g.widths in omega arith),
    );
    unmoved = λ e. let z : rounds ≡ 0 = omega arith in g.first z;
    fixed_rounds = let w = g.widths in omega arith;
  }

  kernels_of : All (IsKernel (length b)) kernels
  kernels_of = subst (λ (n : ℕ). All (IsKernel n) kernels) (sym g.inside.same_length) all

  -- a round that moved nothing
  pub fixed : (floor : Option Bounds) (after : Bounds) (m : Bool) → IsAnswer kernels start floor → IfSome floor (λ f. IsInside f b) → IsRound kernels b after m → m ≡ false →
      HasFixed kernels start after (rounds + 1) × IsWithin limit (rounds + 1)
  fixed floor after m a held r f =
      let same = r.still f in
      let quiet : All (IsQuiet b) kernels = λ i d h. subst (λ (x : Bounds). IsQuiet x (get_or kernels i d)) same (quiet_of (get_or kernels i d) b after same (r.heard i d h)) in
      (subst (λ (x : Bounds). HasFixed kernels start x (rounds + 1)) (sym same) (settled (greatest floor a held (closed_of b kernels g.proper kernels_of quiet))), within)

  -- a crossed box holds no floor
  fails : (order : InsideOrder) (floor : Option Bounds) (after : Bounds) → IsAnswer kernels start floor → IfSome floor (λ f. IsInside f after) → IsCrossed after → Fails start kernels
  fails order None after a held x = a
  fails order (Some f) after a held x = absurd (both_ways after x (order.outer_is_proper f after a.closed.proper held))

  pub failed : (order : InsideOrder) (floor : Option Bounds) (after : Bounds) → IsAnswer kernels start floor → IfSome floor (λ f. IsInside f after) → IsCrossed after →
      HasFailed kernels start (rounds + 1) × IsCrossed after × IsWithin limit (rounds + 1)
  failed order floor after a held x = (
    record {
      fails = fails order floor after a held x;
      at_once = (λ e. absurd (omega arith), λ c. absurd (both_ways start c proper));
      rounds_are = λ p. let w = g.widths in omega arith;
    },
    x,
    within,
  )

  -- a round that moved something, and left a number for each variable
  pub narrower : (order : InsideOrder) (after : Bounds) (m : Bool) → IsRound kernels b after m → m ≡ true → IsProper after → width_sum_of after < width_sum_of b
  narrower order after m r f p = order.narrower after b p r.inside (r.moves f)

  one_round : (after : Bounds) (m : Bool) → IsRound kernels b after m → m ≡ true → IsProper after → IsOneRound kernels b after
  one_round after m r f p = record {
    inside = r.inside;
    moved = λ e. r.moves f (sym e);
    each = λ i d h. r.heard i d h (λ j lt. p _ ((subst (λ (n : ℕ). IsKernel n (get_or kernels i d)) (sym r.inside.same_length) (kernels_of i d h)).variables.each j lt));
  }

  leads_on : RoundsLead → (after : Bounds) (m : Bool) → IsRound kernels b after m → m ≡ true → IsProper after → LeadsIn kernels (rounds + 1) start after
  leads_on laws after m r f p = laws.more kernels rounds start b after g.leads (one_round after m r f p)

  pub goes_on : (order : InsideOrder) (laws : RoundsLead) (after : Bounds) (m : Bool) → IsRound kernels b after m → m ≡ true → IsProper after →
      (limit ≢ 0 → rounds + 1 ≢ limit) → Goes kernels limit start (rounds + 1) after
  goes_on order laws after m r f p more = record {
    proper = p;
    inside = inside_through after b start r.inside g.inside;
    first = λ z. absurd (omega arith);
    widths = let less = narrower order after m r f p in let w = g.widths in omega arith;
    leads = leads_on laws after m r f p;
    below = λ ne. let less = g.below ne in let other = more ne in omega arith;
  }

  -- as many rounds as the limit, of which the last moved something, and left a number for each variable
  pub spent : (order : InsideOrder) (laws : RoundsLead) (floor : Option Bounds) (after : Bounds) (m : Bool) → IsAnswer kernels start floor →
      IfSome floor (λ f. IsInside f after) → IsRound kernels b after m → m ≡ true → IsProper after → limit ≢ 0 → rounds + 1 ≡ limit →
      HasSpent kernels start after limit (rounds + 1)
  spent order laws floor after m a held r f p ne e = record {
    limited = ne;
    all = e;
    proper = p;
    holds = holds floor a held;
    leads = leads_on laws after m r f p;
    widths = let less = narrower order after m r f p in let w = g.widths in omega arith;
  }
    where
      holds : (floor : Option Bounds) → IsAnswer kernels start floor → IfSome floor (λ h. IsInside h after) → (c : Bounds) → IsClosed c kernels → IsInside c start → IsInside c after
      holds None a held c closed i = absurd (a c closed i)
      holds (Some h) a held c closed i = inside_through c h after (a.greatest c closed i) held

-- a start that is crossed
pub crossed_start : (order : InsideOrder) (kernels : List Kernel) (limit : ℕ) (start after : Bounds) → after ≡ start → IsCrossed start →
    HasFailed kernels start 0 × IsCrossed after × IsWithin limit 0
crossed_start order kernels limit start after e x = (
  record {
    fails = λ c closed i. both_ways start x (order.outer_is_proper c start closed.proper i);
    at_once = (λ z. x, λ z. refl);
    rounds_are = λ p. absurd (both_ways start x p);
  },
  subst IsCrossed (sym e) x,
  λ ne. omega arith,
)
