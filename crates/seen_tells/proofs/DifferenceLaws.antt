-- What a difference tells, from the sums of its two terms.
use Rattle.std.proofs.Common.{◌≡◌, ℕ, List, [], ◌∷◌, ◌++◌, true, false, cond, None, Some, ◌&&◌, ◌||◌, ℤ, pos, negsuc, ◌+ℤ◌, ◌-ℤ◌, ◌≤ℤ◌, ◌≤◌, inl, inr, ⊎_elim, unsigned_abs, to_z, of_z, sym, subst, ◌∙◌, arith}
use Rattle.std.proofs.lemmas.Int.{ints, clamps}
use Rattle.std.proofs.lemmas.Bool.{or_cases}
use Rattle.std.proofs.lemmas.List.{append-nil}
use Rattle.std.proofs.lemmas.List.Elements.{All-append}
use Rattle.std.specs.Int.RustNames.{int_lt, int_le}
use mir.Syntax.{w64}
use Rattle.std.specs.List.{zip, flat_map}
use Rattle.tells.specs.declared.tell.Lit.{Lit}
use Rattle.tells.specs.declared.tell.Tell.{Tell}
use Rattle.interval.specs.Limits.{IsNumber, bound_limit, largest_number, ClampOrder}
use Rattle.interval.specs.Quotients.{QuotientOrder}
use Rattle.interval.specs.Boxes.{Bounds}
use Rattle.guarded_tell.specs.declared.kernel.Kernel.{Kernel}
use Rattle.small_sums.specs.declared.pairs.Pair.{Pair}
use Rattle.small_sums.specs.declared.short.Sums.{Sums}
use Rattle.small_sums.specs.declared.short.SmallTerm.{SmallTerm}
use Rattle.short_tells.specs.declared.short_terms.Room.{Room}
use Rattle.kernel_visits.specs.declared.shape.Shape.TheVariants.{AtMost, Same}
use Rattle.guarded_tell.specs.Words.{Keeps, when, is_sure, is_out, tell_true, tell_false}
use Rattle.sum_tells.specs.Linear.{Term, IsLinear, least_of, greatest_of, product_at_most, literal_tells}
use Rattle.sum_tells.specs.Equality.{is_same, equation_tells}
use Rattle.tell_laws.specs.Narrowing.{narrowing}
use Rattle.kernel_visits.specs.Narrowing.{narrowing_tells}
use Rattle.guarded_tell.specs.Kernels.{tells, HasNumbers, IsKernel}
use Rattle.small_sums.specs.Short.{small_product_limit, small_limit, short_sum_limit, sums_of_two, IsTermOf}
use Rattle.short_tells.specs.ShortTells.{room_tells, any_room, room_at_most, room_equal}
use Rattle.kernel_visits.specs.Shapes.{IsDifference, IsDifferenceIn, IsShapeOf}
use Rattle.tell_laws.proofs.Lists.{All-one, All-when}
use Rattle.sum_tells.proofs.EqualityLaws.{least_under_greatest}
use Rattle.tell_laws.proofs.NarrowingLaws.{none_narrows}
use Rattle.small_sums.proofs.QuietLaws.{sure_keeps, at_most_wide}
use Rattle.kernel_visits.proofs.ShapeQuiet.{difference_sums}
use Rattle.short_tells.proofs.ShortSumLaws.{none_told, at_most_by_room, equal_by_room}

pub at_most_number : (k : Kernel) (count : ℕ) (l : Lit) (x y : ℕ) (limit : ℤ) → IsKernel count k → IsShapeOf k (AtMost l x y limit) → IsNumber limit
unfolding IsShapeOf HasNumbers
at_most_number k count l x y limit kernel (cs, vs, e, d) =
    let linear : IsLinear cs vs limit = subst (λ (j : Kernel). HasNumbers j) e kernel.numbers in
    linear.limit_in_range

-- they are short
module _ (b : Bounds) (x y : ℕ) (p : Pair) (within : IsDifferenceIn b x y p) (s : ℤ) where
  pub short_least : s ≡ (p.first.least +ℤ p.second.least) → unsigned_abs s ≤ short_sum_limit
  unfolding least_of short_sum_limit bound_limit largest_number
  short_least e =
      let f = within.first.least in let g = within.second.least in
      let l = within.first.bounds.low in let h = within.first.bounds.high in
      let m = within.second.bounds.low in let n = within.second.bounds.high in
      omega (arith, ints, clamps)

  pub short_greatest : s ≡ (p.first.greatest +ℤ p.second.greatest) → unsigned_abs s ≤ short_sum_limit
  unfolding greatest_of short_sum_limit bound_limit largest_number
  short_greatest e =
      let f = within.first.greatest in let g = within.second.greatest in
      let l = within.first.bounds.low in let h = within.first.bounds.high in
      let m = within.second.bounds.low in let n = within.second.bounds.high in
      omega (arith, ints, clamps)

-- what the code compares of them
pub coded_of : (z y s : ℤ) → s ≡ (to_z w64 (of_z w64 z) +ℤ to_z w64 (of_z w64 y)) → unsigned_abs z ≤ small_product_limit → unsigned_abs y ≤ small_product_limit → to_z w64 (of_z w64 s) ≡ (z +ℤ y)
unfolding small_product_limit small_limit
coded_of z y s e h k = omega (arith, ints)

-- of two items, one of which gives nothing, the other gives all
module _ (f : Term → List Tell) (t u : Term) (none : f u ≡ []) where
  first_gives : flat_map f (t ∷ u ∷ []) ≡ f t
  first_gives = (λ i. f t ++ (none i ++ [])) ∙ append-nil (f t)

  second_gives : flat_map f (u ∷ t ∷ []) ≡ f t
  second_gives = (λ i. none i ++ (f t ++ [])) ∙ append-nil (f t)

module _ (f : Term → List Tell) (x y : ℕ) where
  by_first : (cs : List ℤ) (vs : List ℕ) → IsDifference cs vs x y → f (negsuc 0, y) ≡ [] → flat_map f (zip cs vs) ≡ f (pos 1, x)
  by_first cs vs (inl (g, h)) none = (λ i. flat_map f (zip (g i) (h i))) ∙ first_gives f (pos 1, x) (negsuc 0, y) none
  by_first cs vs (inr (g, h)) none = (λ i. flat_map f (zip (g i) (h i))) ∙ second_gives f (pos 1, x) (negsuc 0, y) none

  by_second : (cs : List ℤ) (vs : List ℕ) → IsDifference cs vs x y → f (pos 1, x) ≡ [] → flat_map f (zip cs vs) ≡ f (negsuc 0, y)
  by_second cs vs (inl (g, h)) none = (λ i. flat_map f (zip (g i) (h i))) ∙ second_gives f (negsuc 0, y) (pos 1, x) none
  by_second cs vs (inr (g, h)) none = (λ i. flat_map f (zip (g i) (h i))) ∙ first_gives f (negsuc 0, y) (pos 1, x) none

module _ (quotients : QuotientOrder) (clamped : ClampOrder) (b : Bounds) (k : Kernel) (l : Lit) (x y : ℕ) (limit c : ℤ) (read : c ≡ limit) (p : Pair) (within : IsDifferenceIn b x y p) where
  abbrev sums : Sums
  sums = sums_of_two p.first p.second

  -- ---- the literal is neither sure nor out

  any_equal : is_sure l b ≡ false → any_room ≡ room_equal b l c sums
  unfolding room_equal
  any_equal e = (λ i. cond (sym e i) (record { rise = Some (c -ℤ sums.least); fall = Some (sums.greatest -ℤ c) }) any_room)

  any_at_most : is_sure l b ≡ false → is_out l b ≡ false → any_room ≡ room_at_most b l c sums
  unfolding room_at_most
  any_at_most e o = (λ i. cond (sym e i) (record { rise = Some (c -ℤ sums.least); fall = None }) (cond (sym o i) (record { rise = None; fall = Some (sums.greatest -ℤ (c +ℤ pos 1)) }) any_room))

  pub same_open : IsShapeOf k (Same l x y limit) → is_sure l b ≡ false → is_out l b ≡ false → narrowing_tells k b ≡ narrowing b (equation_tells l c sums.least sums.greatest)
  unfolding IsShapeOf tells
  same_open (cs, vs, e, d) unsure out =
      (λ i. narrowing b (tells (e i) b))
      ∙ equal_by_room clamped b l cs vs limit c sums (difference_sums b x y p within cs vs d) read any_room out (any_equal unsure)
      ∙ (λ i. narrowing b (equation_tells l c sums.least sums.greatest) ++ none_told b (zip cs vs) i)
      ∙ append-nil (narrowing b (equation_tells l c sums.least sums.greatest))

  pub at_most_open : IsShapeOf k (AtMost l x y limit) → is_sure l b ≡ false → is_out l b ≡ false → narrowing_tells k b ≡ narrowing b (literal_tells l c sums.least sums.greatest)
  unfolding IsShapeOf tells
  at_most_open (cs, vs, e, d) unsure out =
      (λ i. narrowing b (tells (e i) b))
      ∙ at_most_by_room clamped b l cs vs limit c sums (difference_sums b x y p within cs vs d) read any_room (any_at_most unsure out)
      ∙ (λ i. narrowing b (literal_tells l c sums.least sums.greatest) ++ none_told b (zip cs vs) i)
      ∙ append-nil (narrowing b (literal_tells l c sums.least sums.greatest))

  -- ---- the literal is sure, and one variable is told nothing

  module _ (sure : is_sure l b ≡ true) where
    first_proper : p.first.least ≤ℤ p.first.greatest
    first_proper = let r = least_under_greatest b (pos 1, x) in let l = within.first.least in let g = within.first.greatest in omega (arith, ints)

    second_proper : p.second.least ≤ℤ p.second.greatest
    second_proper = let r = least_under_greatest b (negsuc 0, y) in let l = within.second.least in let g = within.second.greatest in omega (arith, ints)

    pub equation_none : sums.least ≤ℤ c → c ≤ℤ sums.greatest → narrowing b (equation_tells l c sums.least sums.greatest) ≡ []
    equation_none low high = none_narrows b (equation_tells l c sums.least sums.greatest)
        (All-append (Keeps b) (when (int_lt c sums.least || int_lt sums.greatest c) (tell_false l ∷ [])) (when (is_same sums.least c && is_same sums.greatest c) (tell_true l ∷ []))
        (All-when (Keeps b) (int_lt c sums.least || int_lt sums.greatest c) (tell_false l ∷ []) (λ e. ⊎_elim (λ q. absurd (omega (arith, ints))) (λ q. absurd (omega (arith, ints))) (or_cases (int_lt c sums.least) (int_lt sums.greatest c) e)))
        (All-when (Keeps b) (is_same sums.least c && is_same sums.greatest c) (tell_true l ∷ []) (λ e. All-one (Keeps b) (tell_true l) (sure_keeps clamped b l sure))))

    pub literal_none : sums.least ≤ℤ c → narrowing b (literal_tells l c sums.least sums.greatest) ≡ []
    literal_none low = none_narrows b (literal_tells l c sums.least sums.greatest)
        (All-append (Keeps b) (when (int_le sums.greatest c) (tell_true l ∷ [])) (when (int_lt c sums.least) (tell_false l ∷ []))
        (All-when (Keeps b) (int_le sums.greatest c) (tell_true l ∷ []) (λ e. All-one (Keeps b) (tell_true l) (sure_keeps clamped b l sure)))
        (All-when (Keeps b) (int_lt c sums.least) (tell_false l ∷ []) (λ e. absurd (omega (arith, ints)))))

    -- a term that may rise and fall by its growth is told nothing
    abbrev both : Room
    both = record { rise = Some (c -ℤ sums.least); fall = Some (sums.greatest -ℤ c) }

    abbrev rising : Room
    rising = record { rise = Some (c -ℤ sums.least); fall = None }

    pub both_is : both ≡ room_equal b l c sums
    unfolding room_equal
    both_is = (λ i. cond (sym sure i) both any_room)

    pub rising_is : rising ≡ room_at_most b l c sums
    unfolding room_at_most
    rising_is = (λ i. cond (sym sure i) rising (cond (is_out l b) (record { rise = None; fall = Some (sums.greatest -ℤ (c +ℤ pos 1)) }) any_room))

    module _ (a : ℤ) (v : ℕ) (t : SmallTerm) (term : IsTermOf b a v t) where
      high : (t.greatest -ℤ t.least) ≤ℤ (c -ℤ sums.least) → narrowing b (room_tells b rising (a, v)) ≡ []
      high up =
          let l = term.least in let g = term.greatest in
          let rise = least_of b (a, v) +ℤ (c -ℤ sums.least) in
          none_narrows b (room_tells b rising (a, v))
          (All-append (Keeps b) (product_at_most v a rise) []
          (at_most_wide quotients clamped b v a rise term.bounds.low term.bounds.high (omega (arith, ints)))
          (λ i d h. absurd (omega arith)))

    module _ (shape : IsShapeOf k (AtMost l x y limit)) (room : Room) (is : room ≡ room_at_most b l c sums) where
      at_rising : (v : Term) → narrowing b (room_tells b rising v) ≡ [] → narrowing b (room_tells b room v) ≡ []
      at_rising v none = (λ i. narrowing b (room_tells b ((is ∙ sym rising_is) i) v)) ∙ none

      pub at_most_first : (p.first.least +ℤ p.second.greatest) ≤ℤ c → narrowing_tells k b ≡ narrowing b (room_tells b room (pos 1, x))
      unfolding IsShapeOf tells
      at_most_first up = at shape
        where
          at : IsShapeOf k (AtMost l x y limit) → narrowing_tells k b ≡ narrowing b (room_tells b room (pos 1, x))
          at (cs, vs, e, d) =
              let two = second_proper in
              (λ i. narrowing b (tells (e i) b))
              ∙ at_most_by_room clamped b l cs vs limit c sums (difference_sums b x y p within cs vs d) read room is
              ∙ (λ i. literal_none (omega (arith, ints)) i ++ flat_map (λ (t : Term). narrowing b (room_tells b room t)) (zip cs vs))
              ∙ by_first (λ (t : Term). narrowing b (room_tells b room t)) x y cs vs d (at_rising (negsuc 0, y) (high (negsuc 0) y p.second within.second (omega (arith, ints))))

      pub at_most_second : (p.first.greatest +ℤ p.second.least) ≤ℤ c → narrowing_tells k b ≡ narrowing b (room_tells b room (negsuc 0, y))
      unfolding IsShapeOf tells
      at_most_second up = at shape
        where
          at : IsShapeOf k (AtMost l x y limit) → narrowing_tells k b ≡ narrowing b (room_tells b room (negsuc 0, y))
          at (cs, vs, e, d) =
              let one = first_proper in
              (λ i. narrowing b (tells (e i) b))
              ∙ at_most_by_room clamped b l cs vs limit c sums (difference_sums b x y p within cs vs d) read room is
              ∙ (λ i. literal_none (omega (arith, ints)) i ++ flat_map (λ (t : Term). narrowing b (room_tells b room t)) (zip cs vs))
              ∙ by_second (λ (t : Term). narrowing b (room_tells b room t)) x y cs vs d (at_rising (pos 1, x) (high (pos 1) x p.first within.first (omega (arith, ints))))
