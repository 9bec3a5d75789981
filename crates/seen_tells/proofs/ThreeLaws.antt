-- What an equation of three terms, each a variable or its opposite, tells.
use Rattle.std.proofs.Common.{◌≡◌, ℕ, zero, suc, ◌<◌, List, [], ◌∷◌, ◌++◌, length, get_or, Some, true, cond, ◌&&◌, ◌||◌, ℤ, pos, negsuc, ◌+ℤ◌, ◌-ℤ◌, ◌≤ℤ◌, inr, ⊎_elim, refl, sym, subst, ◌∙◌, arith}
use Rattle.std.proofs.lemmas.Int.{ints, clamps}
use Rattle.std.proofs.lemmas.Bool.{or_cases}
use Rattle.std.proofs.lemmas.List.Elements.{All-append, filter-append}
use Rattle.std.specs.Int.RustNames.{int_lt}
use Rattle.std.specs.List.{All, zip, flat_map}
use Rattle.tells.specs.declared.tell.Lit.{Lit}
use Rattle.tells.specs.declared.tell.Tell.{Tell}
use Rattle.interval.specs.Limits.{IsBound, IsNumber, bound_limit, largest_number, ClampOrder}
use Rattle.interval.specs.Quotients.{floor_of, QuotientOrder}
use Rattle.interval.specs.Boxes.{Bounds, low_of, high_of}
use Rattle.small_sums.specs.declared.short.SmallTerm.{SmallTerm}
use Rattle.small_sums.specs.declared.short.Sums.{Sums}
use Rattle.guarded_tell.specs.declared.kernel.Kernel.{Kernel}
use Rattle.guarded_tell.specs.declared.kernel.Kernel.TheVariants.{Eq}
use Rattle.kernel_visits.specs.declared.resting.Rest.TheVariants.{Awake, ForGood}
use Rattle.kernel_visits.specs.declared.shape.Sign.{Sign}
use Rattle.kernel_visits.specs.declared.shape.Sign.TheVariants.{Plus, Minus}
use Rattle.kernel_visits.specs.declared.shape.Terms.{Terms}
use Rattle.seen_tells.specs.declared.three.Spans.{Spans}
use Rattle.guarded_tell.specs.Words.{when, low_tell, high_tell, Keeps, is_sure, tell_true, tell_false, AreVariables, IsProperIn}
use Rattle.sum_tells.specs.Linear.{Term, IsLinear, sum_over, least_of, greatest_of}
use Rattle.sum_tells.specs.Equality.{is_same, equation_tells}
use Rattle.small_sums.specs.Short.{growth_of, HasBounds, IsTermOf, AreSums}
use Rattle.tell_laws.specs.Narrowing.{narrows, narrowing}
use Rattle.short_tells.specs.ShortTells.{rise_tells, fall_tells, room_tells, any_room, room_equal}
use Rattle.guarded_tell.specs.Kernels.{vars_of, tells, HasNumbers, IsKernel}
use Rattle.kernel_visits.specs.Narrowing.{narrowing_tells}
use Rattle.kernel_visits.specs.Rests.{IsQuietFor}
use Rattle.kernel_visits.specs.Shapes.{unit_of, units_of, places_of}
use Rattle.seen_tells.specs.Three.{ArePlaced, AreSpansOf, width_of, room_of}
use Rattle.tell_laws.proofs.Lists.{All-one, All-when}
use Rattle.tell_laws.proofs.NarrowingLaws.{none_narrows}
use Rattle.sum_tells.proofs.EqualityLaws.{least_under_greatest}
use Rattle.small_sums.proofs.QuietLaws.{sure_keeps, equation_quiet}
use Rattle.short_tells.proofs.ShortTellLaws.{rise_above, rise_below, fall_above, fall_below}
use Rattle.short_tells.proofs.ShortSumLaws.{sure_not_out, equal_by_room}
use Rattle.kernel_visits.proofs.SettledLaws.{equation_rests}

-- ---- the values of a variable or its opposite are bounds

module _ (b : Bounds) (x : ℕ) (t : SmallTerm) where
  pub least_is_bound : (s : Sign) → IsTermOf b (unit_of s) x t → IsBound t.least
  unfolding least_of bound_limit largest_number
  least_is_bound Plus h = let low = h.bounds.low in let high = h.bounds.high in let is = h.least in omega (arith, ints, clamps)
  least_is_bound Minus h = let low = h.bounds.low in let high = h.bounds.high in let is = h.least in omega (arith, ints, clamps)

  pub greatest_is_bound : (s : Sign) → IsTermOf b (unit_of s) x t → IsBound t.greatest
  unfolding greatest_of bound_limit largest_number
  greatest_is_bound Plus h = let low = h.bounds.low in let high = h.bounds.high in let is = h.greatest in omega (arith, ints, clamps)
  greatest_is_bound Minus h = let low = h.bounds.low in let high = h.bounds.high in let is = h.greatest in omega (arith, ints, clamps)

-- ---- bounds that stay

module _ (clamped : ClampOrder) (b : Bounds) (x : ℕ) (z : ℤ) where
  pub high_kept : IsBound (high_of b x) → high_of b x ≤ℤ z → narrowing b (high_tell x z ∷ []) ≡ []
  high_kept bound h =
      let same = clamped.same (high_of b x) bound in
      let rise = clamped.rises (high_of b x) z h in
      none_narrows b (high_tell x z ∷ []) (All-one (Keeps b) (high_tell x z) (omega (arith, ints)))

  pub low_kept : IsBound (low_of b x) → z ≤ℤ low_of b x → narrowing b (low_tell x z ∷ []) ≡ []
  low_kept bound h =
      let same = clamped.same (low_of b x) bound in
      let rise = clamped.rises z (low_of b x) h in
      none_narrows b (low_tell x z ∷ []) (All-one (Keeps b) (low_tell x z) (omega (arith, ints)))

-- ---- the tells of one term

module _ (quotients : QuotientOrder) where
  pub whole : (r : ℤ) → floor_of r (pos 1) ≡ r
  whole r =
      let up = (quotients.floor_above_zero r (pos 1) r (omega (arith, ints))).1 (omega (arith, ints)) in
      let down = (quotients.floor_above_zero r (pos 1) (floor_of r (pos 1)) (omega (arith, ints))).0 (omega (arith, ints)) in
      omega (arith, ints)

  module _ (b : Bounds) (x : ℕ) (proper : low_of b x ≤ℤ high_of b x) (rise fall : ℤ) where
    pub plus_told : narrowing b (room_tells b (room_of rise fall) (pos 1, x)) ≡ narrowing b (high_tell x (low_of b x +ℤ rise) ∷ []) ++ narrowing b (low_tell x (high_of b x -ℤ fall) ∷ [])
    plus_told =
        let up = rise_above quotients b (pos 1) x proper rise rise (pos 1) refl (omega (arith, ints)) refl ∙ (λ i. high_tell x (low_of b x +ℤ whole rise i) ∷ []) in
        let down = fall_above quotients b (pos 1) x proper fall fall (pos 1) refl (omega (arith, ints)) refl ∙ (λ i. low_tell x (high_of b x -ℤ whole fall i) ∷ []) in
        filter-append (narrows b) (rise_tells b (Some rise) (pos 1, x)) (fall_tells b (Some fall) (pos 1, x))
        ∙ (λ i. narrowing b (up i) ++ narrowing b (down i))

    pub minus_told : narrowing b (room_tells b (room_of rise fall) (negsuc 0, x)) ≡ narrowing b (low_tell x (high_of b x -ℤ rise) ∷ []) ++ narrowing b (high_tell x (low_of b x +ℤ fall) ∷ [])
    minus_told =
        let up = rise_below quotients b (negsuc 0) x proper rise rise (pos 1) refl (omega (arith, ints)) refl ∙ (λ i. low_tell x (high_of b x -ℤ whole rise i) ∷ []) in
        let down = fall_below quotients b (negsuc 0) x proper fall fall (pos 1) refl (omega (arith, ints)) refl ∙ (λ i. high_tell x (low_of b x +ℤ whole fall i) ∷ []) in
        filter-append (narrows b) (rise_tells b (Some rise) (negsuc 0, x)) (fall_tells b (Some fall) (negsuc 0, x))
        ∙ (λ i. narrowing b (up i) ++ narrowing b (down i))

    -- a term that may rise and fall by as much as its bounds are apart is told nothing
    pub term_kept : ClampOrder → IsBound (low_of b x) → IsBound (high_of b x) → (s : Sign) → (high_of b x -ℤ low_of b x) ≤ℤ rise → (high_of b x -ℤ low_of b x) ≤ℤ fall →
        narrowing b (room_tells b (room_of rise fall) (unit_of s, x)) ≡ []
    term_kept clamped low high Plus up down =
        plus_told ∙ (λ i. high_kept clamped b x (low_of b x +ℤ rise) high (omega (arith, ints)) i ++ low_kept clamped b x (high_of b x -ℤ fall) low (omega (arith, ints)) i)
    term_kept clamped low high Minus up down =
        minus_told ∙ (λ i. low_kept clamped b x (high_of b x -ℤ rise) low (omega (arith, ints)) i ++ high_kept clamped b x (low_of b x +ℤ fall) high (omega (arith, ints)) i)

-- ---- the kernel's variables stand in the box, and its limit is a number

module _ (k : Kernel) (b : Bounds) (l : Lit) (t : Terms) (limit : ℤ) (kernel : IsKernel (length b) k) (is : k ≡ Eq l (units_of t) (places_of t) limit) where
  abbrev Named : List ℕ
  Named = l.var ∷ t.x ∷ t.y ∷ t.z ∷ []

  there : AreVariables (length b) Named
  unfolding vars_of
  there = subst (λ (j : Kernel). AreVariables (length b) (vars_of j)) is kernel.variables

  linear : IsLinear (units_of t) (places_of t) limit
  unfolding HasNumbers
  linear = subst (λ (j : Kernel). HasNumbers j) is kernel.numbers

  pub three_number : IsNumber limit
  three_number = linear.limit_in_range

  pub literal_placed : l.var < length b
  literal_placed = there.each 0 (omega arith)

  module _ (proper : IsProperIn (vars_of k) b) where
    left_of : IsProperIn Named b
    unfolding vars_of
    left_of = subst (λ (j : Kernel). IsProperIn (vars_of j) b) is proper

    pub literal_proper : low_of b l.var ≤ℤ high_of b l.var
    literal_proper = left_of 0 (omega arith)

    pub three_placed : ArePlaced b t
    three_placed = record {
      x = there.each 1 (omega arith);
      y = there.each 2 (omega arith);
      z = there.each 3 (omega arith);
      x_proper = left_of 1 (omega arith);
      y_proper = left_of 2 (omega arith);
      z_proper = left_of 3 (omega arith);
    }

  -- ---- its sums, and what they say

  module _ (p : Spans) (within : AreSpansOf b t p) (s : Sums) (least : s.least ≡ (p.x.least +ℤ p.y.least) +ℤ p.z.least) (greatest : s.greatest ≡ (p.x.greatest +ℤ p.y.greatest) +ℤ p.z.greatest)
      (x : width_of p.x ≤ℤ s.widest) (y : width_of p.y ≤ℤ s.widest) (z : width_of p.z ≤ℤ s.widest) where
    bounds_at : (i : ℕ) → i < 3 → HasBounds b (get_or (places_of t) i 0)
    bounds_at zero h = within.x.bounds
    bounds_at (suc zero) h = within.y.bounds
    bounds_at (suc (suc zero)) h = within.z.bounds
    bounds_at (suc (suc (suc i))) h = absurd (omega arith)

    growth_at : (i : ℕ) → i < 3 → growth_of b (get_or (units_of t) i (pos 0)) (get_or (places_of t) i 0) ≤ℤ s.widest
    growth_at zero h = let l = within.x.least in let g = within.x.greatest in omega (arith, ints)
    growth_at (suc zero) h = let l = within.y.least in let g = within.y.greatest in omega (arith, ints)
    growth_at (suc (suc zero)) h = let l = within.z.least in let g = within.z.greatest in omega (arith, ints)
    growth_at (suc (suc (suc i))) h = absurd (omega arith)

    three_sums : AreSums b (units_of t) (places_of t) s
    unfolding sum_over
    three_sums = record {
      least = (let l = within.x.least in let m = within.y.least in let n = within.z.least in omega (arith, ints));
      greatest = (let l = within.x.greatest in let m = within.y.greatest in let n = within.z.greatest in omega (arith, ints));
      above_zero = (let r = least_under_greatest b (unit_of t.x_sign, t.x) in let l = within.x.least in let g = within.x.greatest in omega (arith, ints));
      bounds = bounds_at;
      within = growth_at;
    }

    module _ (quotients : QuotientOrder) (clamped : ClampOrder) (sure : is_sure l b ≡ true) where
      all_kept : s.widest ≤ℤ (limit -ℤ s.least) → s.widest ≤ℤ (s.greatest -ℤ limit) → All (Keeps b) (tells k b)
      unfolding tells
      all_kept up down =
          subst (λ (j : Kernel). All (Keeps b) (tells j b)) (sym is)
          (equation_quiet quotients clamped b l (units_of t) (places_of t) s refl three_sums limit (record {
            sure_low = λ e. up;
            sure_high = λ e. down;
            out = λ e o. absurd (cc);
            open_low = λ e o. absurd (cc);
            open_high = λ e o. absurd (cc);
            open_wide = λ e o. absurd (cc);
          }))

      pub three_quiet : s.widest ≤ℤ (limit -ℤ s.least) → s.widest ≤ℤ (s.greatest -ℤ limit) → IsQuietFor k b Awake
      three_quiet up down = record { kept = all_kept up down; rest = tt }

      pub three_settled : s.widest ≤ℤ (limit -ℤ s.least) → s.widest ≤ℤ (s.greatest -ℤ limit) → limit ≤ℤ s.least → s.greatest ≤ℤ limit → IsQuietFor k b ForGood
      three_settled up down low high = record {
        kept = all_kept up down;
        rest = equation_rests quotients clamped b k kernel l (units_of t) (places_of t) limit s three_sums is ForGood (inr (sure, low, high));
      }

      literal_none : s.least ≤ℤ limit → limit ≤ℤ s.greatest → narrowing b (equation_tells l limit s.least s.greatest) ≡ []
      literal_none low high = none_narrows b (equation_tells l limit s.least s.greatest)
          (All-append (Keeps b) (when (int_lt limit s.least || int_lt s.greatest limit) (tell_false l ∷ [])) (when (is_same s.least limit && is_same s.greatest limit) (tell_true l ∷ []))
          (All-when (Keeps b) (int_lt limit s.least || int_lt s.greatest limit) (tell_false l ∷ []) (λ e. ⊎_elim (λ q. absurd (omega (arith, ints))) (λ q. absurd (omega (arith, ints))) (or_cases (int_lt limit s.least) (int_lt s.greatest limit) e)))
          (All-when (Keeps b) (is_same s.least limit && is_same s.greatest limit) (tell_true l ∷ []) (λ e. All-one (Keeps b) (tell_true l) (sure_keeps clamped b l sure))))

      abbrev Told : ℤ → ℤ → List Tell
      Told rise fall = flat_map (λ (u : Term). narrowing b (room_tells b (room_of rise fall) u)) (zip (units_of t) (places_of t))

      pub three_told : s.least ≤ℤ limit → limit ≤ℤ s.greatest → narrowing_tells k b ≡ Told (limit -ℤ s.least) (s.greatest -ℤ limit)
      unfolding tells room_equal
      three_told low high =
          (λ i. narrowing b (tells (is i) b))
          ∙ equal_by_room clamped b l (units_of t) (places_of t) limit limit s three_sums refl (room_equal b l limit s) (sure_not_out clamped b l sure) refl
          ∙ (λ i. literal_none low high i ++ flat_map (λ (u : Term). narrowing b (room_tells b (cond (sure i) (room_of (limit -ℤ s.least) (s.greatest -ℤ limit)) any_room) u)) (zip (units_of t) (places_of t)))

-- what is left isn't below zero
pub no_less : (r y z : ℤ) → pos 0 ≤ℤ r → r ≡ z -ℤ y → y ≤ℤ z
no_less r y z h e = omega (arith, ints)
