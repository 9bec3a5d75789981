-- What a difference tells whose literal is sure, in the order of its terms.
use Rattle.std.proofs.Common.{◌≡◌, ℕ, List, [], ◌∷◌, ◌++◌, Bool, true, false, Option, None, Some, MatchOption, ℤ, pos, negsuc, ◌+ℤ◌, ◌-ℤ◌, ◌≤ℤ◌, inl, inr, refl, subst, ◌∙◌, arith}
use Rattle.std.proofs.lemmas.Int.{ints}
use Rattle.std.proofs.lemmas.List.{append-nil}
use Rattle.std.specs.List.{zip, flat_map}
use Rattle.tells.specs.declared.tell.Lit.{Lit}
use Rattle.tells.specs.declared.tell.Tell.{Tell}
use Rattle.interval.specs.Limits.{ClampOrder, IsBound}
use Rattle.interval.specs.Quotients.{QuotientOrder}
use Rattle.interval.specs.Boxes.{Bounds, low_of, high_of}
use Rattle.small_sums.specs.declared.pairs.Pair.{Pair}
use Rattle.small_sums.specs.declared.short.Sums.{Sums}
use Rattle.small_sums.specs.Short.{sums_of_two, AreSums}
use Rattle.short_tells.specs.declared.short_terms.Room.{Room}
use Rattle.short_tells.specs.ShortTells.{rise_tells, room_tells}
use Rattle.sum_tells.specs.Linear.{Term}
use Rattle.tell_laws.specs.Narrowing.{narrowing}
use Rattle.guarded_tell.specs.declared.kernel.Kernel.{Kernel}
use Rattle.guarded_tell.specs.declared.kernel.Kernel.TheVariants.{Le, Eq}
use Rattle.seen_tells.specs.declared.seen.Sole.{Sole}
use Rattle.kernel_visits.specs.declared.shape.Shape.TheVariants.{AtMost, Same}
use Rattle.kernel_visits.specs.declared.shape.Sign.TheVariants.{Plus, Minus}
use Rattle.guarded_tell.specs.Words.{is_sure, low_tell, high_tell}
use Rattle.guarded_tell.specs.Kernels.{tells}
use Rattle.kernel_visits.specs.Narrowing.{narrowing_tells}
use Rattle.kernel_visits.specs.Shapes.{IsDifference, IsDifferenceIn, IsShapeOf}
use Rattle.seen_tells.specs.Three.{room_of}
use Rattle.seen_tells.specs.Seen.{IsSole}
use Rattle.seen_tells.specs.Held.{ordered_signs, ordered_vars, ordered_tells, IsSoleOfTwo}
use Rattle.short_tells.proofs.ShortTellLaws.{rise_above, rise_below}
use Rattle.short_tells.proofs.ShortSumLaws.{sure_not_out, at_most_by_room, equal_by_room}
use Rattle.kernel_visits.proofs.ShapeQuiet.{difference_sums}
use Rattle.seen_tells.proofs.DifferenceLaws.{equation_none, literal_none, both_is, rising_is}
use Rattle.seen_tells.proofs.LastLaws.{sole_one}
use Rattle.seen_tells.proofs.ThreeLaws.{whole, high_kept, low_kept, plus_told, minus_told, term_kept}

-- ---- the kernel's terms stand in an order

module _ (k : Kernel) (m : Lit) (cs : List ℤ) (vs : List ℕ) (z : ℤ) (f : Bool) (l : Lit) (x y : ℕ) (limit : ℤ) (order : (ws : List ℕ) (v w : ℕ) → IsDifference cs ws v w → (cs ≡ ordered_signs f) × (ws ≡ ordered_vars f v w)) where
  ordered : (ds : List ℤ) (ws : List ℕ) → ds ≡ cs → IsDifference ds ws x y → (ds ≡ ordered_signs f) × (ws ≡ ordered_vars f x y)
  ordered ds ws e d =
      let o = order ws x y (subst (λ (c : List ℤ). IsDifference c ws x y) e d) in
      (e ∙ o.0, o.1)

  pub at_most_ordered : k ≡ Le m cs vs z → IsShapeOf k (AtMost l x y limit) → k ≡ Le l (ordered_signs f) (ordered_vars f x y) limit
  unfolding IsShapeOf
  at_most_ordered is (ds, ws, e, d) =
      let same : ds ≡ cs = cc in
      let o = ordered ds ws same d in
      e ∙ (λ i. Le l (o.0 i) (o.1 i) limit)

  pub same_ordered : k ≡ Eq m cs vs z → IsShapeOf k (Same l x y limit) → k ≡ Eq l (ordered_signs f) (ordered_vars f x y) limit
  unfolding IsShapeOf
  same_ordered is (ds, ws, e, d) =
      let same : ds ≡ cs = cc in
      let o = ordered ds ws same d in
      e ∙ (λ i. Eq l (o.0 i) (o.1 i) limit)

-- ---- the tells of the two terms, in that order

two_terms : (g : Term → List Tell) (x y : ℕ) (f : Bool) → flat_map g (zip (ordered_signs f) (ordered_vars f x y)) ≡ ordered_tells f (g (pos 1, x)) (g (negsuc 0, y))
two_terms g x y true = λ i. g (pos 1, x) ++ append-nil (g (negsuc 0, y)) i
two_terms g x y false = λ i. g (negsuc 0, y) ++ append-nil (g (pos 1, x)) i

is_difference : (x y : ℕ) (f : Bool) → IsDifference (ordered_signs f) (ordered_vars f x y) x y
is_difference x y true = inl (refl, refl)
is_difference x y false = inr (refl, refl)

module _ (quotients : QuotientOrder) (b : Bounds) (x : ℕ) (proper : low_of b x ≤ℤ high_of b x) (rise : ℤ) where
  abbrev rising : Room
  rising = record { rise = Some rise; fall = None }

  plus_rises : narrowing b (room_tells b rising (pos 1, x)) ≡ narrowing b (high_tell x (low_of b x +ℤ rise) ∷ [])
  plus_rises =
      (λ i. narrowing b (append-nil (rise_tells b (Some rise) (pos 1, x)) i))
      ∙ (λ i. narrowing b (rise_above quotients b (pos 1) x proper rise rise (pos 1) refl (omega (arith, ints)) refl i))
      ∙ (λ i. narrowing b (high_tell x (low_of b x +ℤ whole quotients rise i) ∷ []))

  minus_rises : narrowing b (room_tells b rising (negsuc 0, x)) ≡ narrowing b (low_tell x (high_of b x -ℤ rise) ∷ [])
  minus_rises =
      (λ i. narrowing b (append-nil (rise_tells b (Some rise) (negsuc 0, x)) i))
      ∙ (λ i. narrowing b (rise_below quotients b (negsuc 0) x proper rise rise (pos 1) refl (omega (arith, ints)) refl i))
      ∙ (λ i. narrowing b (low_tell x (high_of b x -ℤ whole quotients rise i) ∷ []))

module _ (quotients : QuotientOrder) (clamped : ClampOrder) (b : Bounds) (k : Kernel) (l : Lit) (x y : ℕ) (limit : ℤ) (p : Pair) (within : IsDifferenceIn b x y p) (sure : is_sure l b ≡ true) (f : Bool) where
  abbrev sums : Sums
  sums = sums_of_two p.first p.second

  sums_of_terms : AreSums b (ordered_signs f) (ordered_vars f x y) sums
  sums_of_terms = difference_sums b x y p within (ordered_signs f) (ordered_vars f x y) (is_difference x y f)

  abbrev At_most : ℤ → List Tell
  At_most rise = ordered_tells f (narrowing b (high_tell x (low_of b x +ℤ rise) ∷ [])) (narrowing b (low_tell y (high_of b y -ℤ rise) ∷ []))

  abbrev In_room : Room → List Tell
  In_room room = ordered_tells f (narrowing b (room_tells b room (pos 1, x))) (narrowing b (room_tells b room (negsuc 0, y)))

  pub at_most_held : low_of b x ≤ℤ high_of b x → low_of b y ≤ℤ high_of b y → k ≡ Le l (ordered_signs f) (ordered_vars f x y) limit → sums.least ≤ℤ limit → narrowing_tells k b ≡ At_most (limit -ℤ sums.least)
  unfolding tells
  at_most_held proper_x proper_y is low =
      let rise = limit -ℤ sums.least in
      let room : Room = record { rise = Some rise; fall = None } in
      (λ i. narrowing b (tells (is i) b))
      ∙ at_most_by_room clamped b l (ordered_signs f) (ordered_vars f x y) limit limit sums sums_of_terms refl room (rising_is quotients clamped b k l x y limit limit refl p within sure)
      ∙ (λ i. literal_none quotients clamped b k l x y limit limit refl p within sure low i ++ flat_map (λ (t : Term). narrowing b (room_tells b room t)) (zip (ordered_signs f) (ordered_vars f x y)))
      ∙ two_terms (λ (t : Term). narrowing b (room_tells b room t)) x y f
      ∙ (λ i. ordered_tells f (plus_rises quotients b x proper_x rise i) (minus_rises quotients b y proper_y rise i))

  pub same_held : k ≡ Eq l (ordered_signs f) (ordered_vars f x y) limit → sums.least ≤ℤ limit → limit ≤ℤ sums.greatest → narrowing_tells k b ≡ In_room (room_of (limit -ℤ sums.least) (sums.greatest -ℤ limit))
  unfolding tells
  same_held is low high =
      let room : Room = room_of (limit -ℤ sums.least) (sums.greatest -ℤ limit) in
      (λ i. narrowing b (tells (is i) b))
      ∙ equal_by_room clamped b l (ordered_signs f) (ordered_vars f x y) limit limit sums sums_of_terms refl room (sure_not_out clamped b l sure) (both_is quotients clamped b k l x y limit limit refl p within sure)
      ∙ (λ i. equation_none quotients clamped b k l x y limit limit refl p within sure low high i ++ flat_map (λ (t : Term). narrowing b (room_tells b room t)) (zip (ordered_signs f) (ordered_vars f x y)))
      ∙ two_terms (λ (t : Term). narrowing b (room_tells b room t)) x y f

-- ---- where one bound of the four alone narrows the box, the order of the terms doesn't matter

first_alone : (ts us : List Tell) (t : Tell) → ts ≡ t ∷ [] → us ≡ [] → (f : Bool) → ordered_tells f ts us ≡ t ∷ []
first_alone ts us t one none true = λ i. one i ++ none i
first_alone ts us t one none false = λ i. none i ++ one i

second_alone : (ts us : List Tell) (t : Tell) → ts ≡ [] → us ≡ t ∷ [] → (f : Bool) → ordered_tells f ts us ≡ t ∷ []
second_alone ts us t none one true = λ i. none i ++ one i
second_alone ts us t none one false = λ i. one i ++ none i

module _ (quotients : QuotientOrder) (clamped : ClampOrder) (b : Bounds) (x y : ℕ) (rise fall : ℤ) (proper_x : low_of b x ≤ℤ high_of b x) (proper_y : low_of b y ≤ℤ high_of b y)
    (low_x : IsBound (low_of b x)) (high_x : IsBound (high_of b x)) (low_y : IsBound (low_of b y)) (high_y : IsBound (high_of b y)) (s : Sole) (last : s.is_last ≡ false) where
  abbrev Of_x : List Tell
  Of_x = narrowing b (room_tells b (room_of rise fall) (pos 1, x))

  abbrev Of_y : List Tell
  Of_y = narrowing b (room_tells b (room_of rise fall) (negsuc 0, y))

  abbrev Alone : Type 0
  Alone = IsSoleOfTwo b x y (room_of rise fall) s

  x_alone : Of_x ≡ s.tell ∷ [] → (high_of b y -ℤ low_of b y) ≤ℤ rise → (high_of b y -ℤ low_of b y) ≤ℤ fall → Alone
  x_alone one up down = record {
    one = first_alone Of_x Of_y s.tell one (term_kept quotients b y proper_y rise fall clamped low_y high_y Minus up down);
    last = last;
  }

  y_alone : Of_y ≡ s.tell ∷ [] → (high_of b x -ℤ low_of b x) ≤ℤ rise → (high_of b x -ℤ low_of b x) ≤ℤ fall → Alone
  y_alone one up down = record {
    one = second_alone Of_x Of_y s.tell (term_kept quotients b x proper_x rise fall clamped low_x high_x Plus up down) one;
    last = last;
  }

  pub high_of_x : narrowing b (high_tell x (low_of b x +ℤ rise) ∷ []) ≡ s.tell ∷ [] → (high_of b x -ℤ low_of b x) ≤ℤ fall → (high_of b y -ℤ low_of b y) ≤ℤ rise → (high_of b y -ℤ low_of b y) ≤ℤ fall → Alone
  high_of_x one h =
      x_alone (plus_told quotients b x proper_x rise fall ∙ (λ i. one i ++ low_kept clamped b x (high_of b x -ℤ fall) low_x (omega (arith, ints)) i))

  pub low_of_x : narrowing b (low_tell x (high_of b x -ℤ fall) ∷ []) ≡ s.tell ∷ [] → (high_of b x -ℤ low_of b x) ≤ℤ rise → (high_of b y -ℤ low_of b y) ≤ℤ rise → (high_of b y -ℤ low_of b y) ≤ℤ fall → Alone
  low_of_x one h =
      x_alone (plus_told quotients b x proper_x rise fall ∙ (λ i. high_kept clamped b x (low_of b x +ℤ rise) high_x (omega (arith, ints)) i ++ one i))

  pub low_of_y : narrowing b (low_tell y (high_of b y -ℤ rise) ∷ []) ≡ s.tell ∷ [] → (high_of b y -ℤ low_of b y) ≤ℤ fall → (high_of b x -ℤ low_of b x) ≤ℤ rise → (high_of b x -ℤ low_of b x) ≤ℤ fall → Alone
  low_of_y one h =
      y_alone (minus_told quotients b y proper_y rise fall ∙ (λ i. one i ++ high_kept clamped b y (low_of b y +ℤ fall) high_y (omega (arith, ints)) i))

  pub high_of_y : narrowing b (high_tell y (low_of b y +ℤ fall) ∷ []) ≡ s.tell ∷ [] → (high_of b y -ℤ low_of b y) ≤ℤ rise → (high_of b x -ℤ low_of b x) ≤ℤ rise → (high_of b x -ℤ low_of b x) ≤ℤ fall → Alone
  high_of_y one h =
      y_alone (minus_told quotients b y proper_y rise fall ∙ (λ i. low_kept clamped b y (high_of b y -ℤ rise) low_y (omega (arith, ints)) i ++ one i))

-- ---- what is alone of the two terms is the kernel's sole tell

module _ (quotients : QuotientOrder) (clamped : ClampOrder) (b : Bounds) (k : Kernel) (l : Lit) (x y : ℕ) (limit : ℤ) (p : Pair) (within : IsDifferenceIn b x y p) (sure : is_sure l b ≡ true)
    (low : (p.first.least +ℤ p.second.least) ≤ℤ limit) (high : limit ≤ℤ (p.first.greatest +ℤ p.second.greatest)) where
  abbrev Room_of_both : Room
  Room_of_both = room_of (limit -ℤ (p.first.least +ℤ p.second.least)) ((p.first.greatest +ℤ p.second.greatest) -ℤ limit)

  of_order : (s : Sole) (f : Bool) → k ≡ Eq l (ordered_signs f) (ordered_vars f x y) limit → IsSoleOfTwo b x y Room_of_both s → IsSole k b s
  of_order s f is alone = sole_one k b s alone.last (same_held quotients clamped b k l x y limit p within sure f is low high ∙ alone.one f)

  of_two : (s : Sole) → IsShapeOf k (Same l x y limit) → IsSoleOfTwo b x y Room_of_both s → IsSole k b s
  unfolding IsShapeOf
  of_two s (cs, vs, is, inl d) = of_order s true (is ∙ (λ i. Eq l (d.0 i) (d.1 i) limit))
  of_two s (cs, vs, is, inr d) = of_order s false (is ∙ (λ i. Eq l (d.0 i) (d.1 i) limit))

  pub sole_of_two : (o : Option Sole) → IsShapeOf k (Same l x y limit) → MatchOption o (Unit {0}) (IsSoleOfTwo b x y Room_of_both) → MatchOption o (Unit {0}) (IsSole k b)
  sole_of_two None shape h = tt
  sole_of_two (Some s) shape h = of_two s shape h
