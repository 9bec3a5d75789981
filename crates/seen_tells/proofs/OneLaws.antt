-- What a shape says that its kernel tells, where that is one tell.
use Rattle.std.proofs.Common.{◌≡◌, ℕ, zero, suc, [], ◌∷◌, ◌++◌, Bool, true, false, not, cond, ◌&&◌, ◌||◌, None, Some, ℤ, pos, negsuc, ◌+ℤ◌, ◌-ℤ◌, ◌*ℤ◌, ◌≤ℤ◌, ◌<ℤ◌, unsigned_abs, to_z, of_z, refl, sym, ◌∙◌, arith}
use Rattle.std.proofs.lemmas.Int.{ints, clamps}
use Rattle.std.proofs.lemmas.Bool.{true≢false, and_from, cond-true}
use Rattle.std.proofs.lemmas.List.{append-nil}
use Rattle.std.specs.Int.RustNames.{int_lt, int_le}
use mir.Syntax.{w64}
use Rattle.tells.specs.declared.tell.Lit.{Lit}
use Rattle.tells.specs.declared.tell.Tell.{Tell}
use Rattle.tells.specs.declared.tell.Side.TheVariants.{Low, High}
use Rattle.interval.specs.Limits.{IsBound, IsNumber, bound_limit, largest_number, clamp_of, ClampOrder}
use Rattle.interval.specs.Quotients.{floor_of, ceiling_of, QuotientOrder}
use Rattle.interval.specs.Boxes.{Bounds, low_of, high_of}
use Rattle.small_sums.specs.declared.pairs.Pair.{Pair}
use Rattle.short_tells.specs.declared.short_terms.Room.{Room}
use Rattle.guarded_tell.specs.declared.kernel.Kernel.{Kernel}
use Rattle.kernel_visits.specs.declared.shape.Shape.TheVariants.{AtMost, Same, Either, Triple}
use Rattle.guarded_tell.specs.Words.{when, low_tell, high_tell, is_sure, is_out, sign_true, sign_tell, tell_true, tell_false}
use Rattle.sum_tells.specs.Linear.{least_of, greatest_of}
use Rattle.sum_tells.specs.Equality.{is_same, is_product, product_is_not}
use Rattle.tell_laws.specs.Narrowing.{narrows, narrowing}
use Rattle.kernel_visits.specs.Narrowing.{narrowing_tells}
use Rattle.small_sums.specs.Short.{sums_of_two}
use Rattle.short_tells.specs.ShortTells.{room_tells, any_room, room_at_most}
use Rattle.kernel_visits.specs.Shapes.{IsDifferenceIn, IsShapeOf}
use Rattle.sum_tells.proofs.EqualityLaws.{same_is, is_same_of, least_under_greatest}
use Rattle.tell_laws.proofs.LiteralLaws.{by_bool}
use Rattle.short_tells.proofs.GrowthLaws.{high_told, low_told}
use Rattle.seen_tells.proofs.ApartLaws.{either_tells, either_told, triple_tells, triple_told}
use Rattle.seen_tells.proofs.DifferenceLaws.{same_open, at_most_open, at_most_first, at_most_second}

-- a limit is a bound, as the code reads it
pub limit_bound : (z : ℤ) → IsNumber z → IsBound (to_z w64 (of_z w64 z))
unfolding bound_limit largest_number
limit_bound z h = omega (arith, ints)

-- ---- literals

pub sign_not : (s : Bool) (z : ℤ) → not (sign_true s z) ≡ sign_true (not s) z
sign_not true z = by_bool (int_le (pos 1) z)
    (λ t. let f : false ≡ int_le z (pos 0) = omega (arith, ints) in (λ i. not (t i)) ∙ f)
    (λ f. let t : true ≡ int_le z (pos 0) = omega (arith, ints) in (λ i. not (f i)) ∙ t)
sign_not false z = by_bool (int_le z (pos 0))
    (λ t. let f : false ≡ int_le (pos 1) z = omega (arith, ints) in (λ i. not (t i)) ∙ f)
    (λ f. let t : true ≡ int_le (pos 1) z = omega (arith, ints) in (λ i. not (f i)) ∙ t)

module _ (clamped : ClampOrder) (b : Bounds) where
  pub one_same : clamp_of (pos 1) ≡ pos 1
  unfolding bound_limit largest_number
  one_same = clamped.same (pos 1) (omega arith)

  pub none_same : clamp_of (pos 0) ≡ pos 0
  none_same = clamped.same (pos 0) (omega arith)

  sign_told : (s : Bool) (v : ℕ) → (sign_true s (low_of b v) && sign_true s (high_of b v)) ≡ false → low_of b v ≤ℤ high_of b v → narrows b (sign_tell s v) ≡ true
  sign_told true v e h = by_bool (int_lt (low_of b v) (pos 1))
      (λ t. (λ i. int_lt (low_of b v) (one_same i)) ∙ t)
      (λ f.
      let p : true ≡ int_le (pos 1) (low_of b v) = omega (arith, ints) in
      let q : true ≡ int_le (pos 1) (high_of b v) = omega (arith, ints) in
      absurd (true≢false (sym (and_from (int_le (pos 1) (low_of b v)) (int_le (pos 1) (high_of b v)) (sym p) (sym q)) ∙ e)))
  sign_told false v e h = by_bool (int_lt (pos 0) (high_of b v))
      (λ t. (λ i. int_lt (none_same i) (high_of b v)) ∙ t)
      (λ f.
      let p : true ≡ int_le (low_of b v) (pos 0) = omega (arith, ints) in
      let q : true ≡ int_le (high_of b v) (pos 0) = omega (arith, ints) in
      absurd (true≢false (sym (and_from (int_le (low_of b v) (pos 0)) (int_le (high_of b v) (pos 0)) (sym p) (sym q)) ∙ e)))

  -- one that isn't sure is told true, and one that isn't out false
  pub true_told : (l : Lit) → is_sure l b ≡ false → low_of b l.var ≤ℤ high_of b l.var → narrowing b (tell_true l ∷ []) ≡ tell_true l ∷ []
  unfolding is_sure
  true_told l e h = cond-true (narrows b (tell_true l)) (tell_true l ∷ []) [] (sign_told l.positive l.var e h)

  pub false_told : (l : Lit) → is_out l b ≡ false → low_of b l.var ≤ℤ high_of b l.var → narrowing b (tell_false l ∷ []) ≡ tell_false l ∷ []
  unfolding is_out
  false_told l e h = cond-true (narrows b (tell_false l)) (tell_false l ∷ []) []
      (sign_told (not l.positive) l.var ((λ i. sym (sign_not l.positive (low_of b l.var)) i && sym (sign_not l.positive (high_of b l.var)) i) ∙ e) h)

-- ---- a clause of which all literals but one are out

module _ (b : Bounds) (k : Kernel) where
  abbrev Sole : Lit → Tell → Type 0
  Sole l t = (is_out l b ≡ false) × (narrowing b (tell_true l ∷ []) ≡ t ∷ [])

  module _ (l m : Lit) (shape : IsShapeOf k (Either l m)) (t : Tell) where
    pub either_first : is_out m b ≡ true → Sole l t → narrowing_tells k b ≡ t ∷ []
    either_first second told =
        either_tells b k l m shape ∙ either_told b l m
        ∙ (λ i. narrowing b (when (second i) (tell_true l ∷ [])) ++ narrowing b (when (told.0 i) (tell_true m ∷ [])))
        ∙ append-nil (narrowing b (tell_true l ∷ []))
        ∙ told.1

    pub either_second : is_out l b ≡ true → Sole m t → narrowing_tells k b ≡ t ∷ []
    either_second first told =
        either_tells b k l m shape ∙ either_told b l m
        ∙ (λ i. narrowing b (when (told.0 i) (tell_true l ∷ [])) ++ narrowing b (when (first i) (tell_true m ∷ [])))
        ∙ told.1

  module _ (l m n : Lit) (shape : IsShapeOf k (Triple l m n)) (t : Tell) where
    pub triple_first_one : is_out m b ≡ true → is_out n b ≡ true → Sole l t → narrowing_tells k b ≡ t ∷ []
    triple_first_one second third told =
        triple_tells b k l m n shape ∙ triple_told b l m n
        ∙ (λ i. narrowing b (when (second i && third i) (tell_true l ∷ [])) ++ (narrowing b (when (told.0 i && third i) (tell_true m ∷ [])) ++ narrowing b (when (told.0 i && second i) (tell_true n ∷ []))))
        ∙ append-nil (narrowing b (tell_true l ∷ []))
        ∙ told.1

    pub triple_second_one : is_out l b ≡ true → is_out n b ≡ true → Sole m t → narrowing_tells k b ≡ t ∷ []
    triple_second_one first third told =
        triple_tells b k l m n shape ∙ triple_told b l m n
        ∙ (λ i. narrowing b (when (told.0 i && third i) (tell_true l ∷ [])) ++ (narrowing b (when (first i && third i) (tell_true m ∷ [])) ++ narrowing b (when (first i && told.0 i) (tell_true n ∷ []))))
        ∙ append-nil (narrowing b (tell_true m ∷ []))
        ∙ told.1

    pub triple_third_one : is_out l b ≡ true → is_out m b ≡ true → Sole n t → narrowing_tells k b ≡ t ∷ []
    triple_third_one first second told =
        triple_tells b k l m n shape ∙ triple_told b l m n
        ∙ (λ i. narrowing b (when (second i && told.0 i) (tell_true l ∷ [])) ++ (narrowing b (when (first i && told.0 i) (tell_true m ∷ [])) ++ narrowing b (when (first i && second i) (tell_true n ∷ []))))
        ∙ told.1

-- ---- a bound of a variable that isn't fixed is left out

module _ (clamped : ClampOrder) (b : Bounds) (x : ℕ) (low_bound : IsBound (low_of b x)) (high_bound : IsBound (high_of b x)) (wide : low_of b x <ℤ high_of b x) where
  -- a coefficient that isn't 0 makes one product of one number
  differ : (a y z p : ℤ) → unsigned_abs a ≡ 1 → y <ℤ z → is_same (a *ℤ y) p ≡ true → is_same (a *ℤ z) p ≡ true → ⊥
  differ (pos zero) y z p u h e f = absurd (omega arith)
  differ (pos (suc zero)) y z p u h e f = let g = same_is (pos 1 *ℤ y) p e in let k = same_is (pos 1 *ℤ z) p f in omega (arith, ints)
  differ (pos (suc (suc n))) y z p u h e f = absurd (omega arith)
  differ (negsuc zero) y z p u h e f = let g = same_is (negsuc 0 *ℤ y) p e in let k = same_is (negsuc 0 *ℤ z) p f in omega (arith, ints)
  differ (negsuc (suc n)) y z p u h e f = absurd (omega arith)

  second_part : (s t : Bool) → (s && t) ≡ true → t ≡ true
  second_part true t e = e
  second_part false t e = absurd (true≢false (sym e))

  pub low_left : (a p : ℤ) → unsigned_abs a ≡ 1 → is_product a (low_of b x) p ≡ true → (t : Tell) → t ≡ record { var = x; side = Low; bound = low_of b x +ℤ pos 1 } → narrowing b (product_is_not x a p b) ≡ t ∷ []
  low_left a p u e t is = by_bool (is_product a (high_of b x) p)
      (λ f. absurd (differ a (low_of b x) (high_of b x) p u wide (second_part _ _ e) (second_part _ _ f)))
      (λ f.
      (λ i. narrowing b (when (e i) (low_tell x (low_of b x +ℤ pos 1) ∷ []) ++ when (f i) (high_tell x (high_of b x -ℤ pos 1) ∷ [])))
      ∙ low_told clamped b x (low_of b x +ℤ pos 1) low_bound high_bound (omega (arith, ints)) (omega (arith, ints)) t is)

  pub high_left : (a p : ℤ) → unsigned_abs a ≡ 1 → is_product a (low_of b x) p ≡ false → is_product a (high_of b x) p ≡ true → (t : Tell) → t ≡ record { var = x; side = High; bound = high_of b x -ℤ pos 1 } → narrowing b (product_is_not x a p b) ≡ t ∷ []
  high_left a p u e f t is =
      (λ i. narrowing b (when (e i) (low_tell x (low_of b x +ℤ pos 1) ∷ []) ++ when (f i) (high_tell x (high_of b x -ℤ pos 1) ∷ [])))
      ∙ high_told clamped b x (high_of b x -ℤ pos 1) low_bound high_bound (omega (arith, ints)) (omega (arith, ints)) t is

-- ---- two terms that decide the literal, or of which one is told

module _ (quotients : QuotientOrder) (clamped : ClampOrder) (b : Bounds) (k : Kernel) (l : Lit) (x y : ℕ) (limit c : ℤ) (read : c ≡ limit) (p : Pair) (within : IsDifferenceIn b x y p) where
  proper_sums : (p.first.least +ℤ p.second.least) ≤ℤ (p.first.greatest +ℤ p.second.greatest)
  proper_sums =
      let r = least_under_greatest b (pos 1, x) in let s = least_under_greatest b (negsuc 0, y) in
      let f = within.first.least in let g = within.first.greatest in let h = within.second.least in let m = within.second.greatest in
      omega (arith, ints)

  module _ (unsure : is_sure l b ≡ false) (possible : is_out l b ≡ false) (proper : low_of b l.var ≤ℤ high_of b l.var) where
    module _ (shape : IsShapeOf k (AtMost l x y limit)) where
      pub at_most_true : (p.first.greatest +ℤ p.second.greatest) ≤ℤ c → (t : Tell) → t ≡ tell_true l → narrowing_tells k b ≡ t ∷ []
      at_most_true h t is =
          let r = proper_sums in
          let yes : true ≡ int_le (p.first.greatest +ℤ p.second.greatest) c = omega (arith, ints) in
          let no : false ≡ int_lt c (p.first.least +ℤ p.second.least) = omega (arith, ints) in
          at_most_open quotients clamped b k l x y limit c read p within shape unsure possible
          ∙ (λ i. narrowing b (when (sym yes i) (tell_true l ∷ []) ++ when (sym no i) (tell_false l ∷ [])))
          ∙ true_told clamped b l unsure proper
          ∙ (λ i. sym is i ∷ [])

      pub at_most_false : c <ℤ (p.first.least +ℤ p.second.least) → (t : Tell) → t ≡ tell_false l → narrowing_tells k b ≡ t ∷ []
      at_most_false h t is =
          let r = proper_sums in
          let no : false ≡ int_le (p.first.greatest +ℤ p.second.greatest) c = omega (arith, ints) in
          let yes : true ≡ int_lt c (p.first.least +ℤ p.second.least) = omega (arith, ints) in
          at_most_open quotients clamped b k l x y limit c read p within shape unsure possible
          ∙ (λ i. narrowing b (when (sym no i) (tell_true l ∷ []) ++ when (sym yes i) (tell_false l ∷ [])))
          ∙ false_told clamped b l possible proper
          ∙ (λ i. sym is i ∷ [])

    module _ (shape : IsShapeOf k (Same l x y limit)) where
      by_tests : (s u : Bool) → (int_lt c (p.first.least +ℤ p.second.least) || int_lt (p.first.greatest +ℤ p.second.greatest) c) ≡ s → (is_same (p.first.least +ℤ p.second.least) c && is_same (p.first.greatest +ℤ p.second.greatest) c) ≡ u
          → narrowing_tells k b ≡ narrowing b (when s (tell_false l ∷ []) ++ when u (tell_true l ∷ []))
      by_tests s u e f =
          same_open quotients clamped b k l x y limit c read p within shape unsure possible
          ∙ (λ i. narrowing b (when (e i) (tell_false l ∷ []) ++ when (f i) (tell_true l ∷ [])))

      one_side : (s u : Bool) → true ≡ s → (s || u) ≡ true
      one_side s u e = (λ i. sym e i || u)

      other_side : (s u : Bool) → true ≡ u → (s || u) ≡ true
      other_side true u e = refl
      other_side false u e = sym e

      not_first : (s u : Bool) → false ≡ s → (s && u) ≡ false
      not_first s u e = (λ i. sym e i && u)

      differs : (v z : ℤ) → v <ℤ z → false ≡ is_same v z
      differs v z h = let yes : true ≡ int_le v z = omega (arith, ints) in let no : false ≡ int_le z v = omega (arith, ints) in (λ i. yes i && no i)

      falls : (v z : ℤ) → z <ℤ v → false ≡ is_same v z
      falls v z h = let no : false ≡ int_le v z = omega (arith, ints) in (λ i. no i && int_le z v)

      pub same_false_low : c <ℤ (p.first.least +ℤ p.second.least) → (t : Tell) → t ≡ tell_false l → narrowing_tells k b ≡ t ∷ []
      same_false_low h t is =
          let yes : true ≡ int_lt c (p.first.least +ℤ p.second.least) = omega (arith, ints) in
          by_tests true false (one_side _ _ yes) (not_first _ _ (falls (p.first.least +ℤ p.second.least) c h))
          ∙ false_told clamped b l possible proper
          ∙ (λ i. sym is i ∷ [])

      pub same_false_high : (p.first.greatest +ℤ p.second.greatest) <ℤ c → (t : Tell) → t ≡ tell_false l → narrowing_tells k b ≡ t ∷ []
      same_false_high h t is =
          let r = proper_sums in
          let yes : true ≡ int_lt (p.first.greatest +ℤ p.second.greatest) c = omega (arith, ints) in
          by_tests true false (other_side _ _ yes) (not_first _ _ (differs (p.first.least +ℤ p.second.least) c (omega (arith, ints))))
          ∙ false_told clamped b l possible proper
          ∙ (λ i. sym is i ∷ [])

      pub same_true : (p.first.least +ℤ p.second.least) ≤ℤ c → c ≤ℤ (p.first.greatest +ℤ p.second.greatest) → (p.first.greatest +ℤ p.second.greatest) ≤ℤ (p.first.least +ℤ p.second.least) → (t : Tell) → t ≡ tell_true l → narrowing_tells k b ≡ t ∷ []
      same_true low high one t is =
          let no : false ≡ int_lt c (p.first.least +ℤ p.second.least) = omega (arith, ints) in
          let none : false ≡ int_lt (p.first.greatest +ℤ p.second.greatest) c = omega (arith, ints) in
          by_tests false true (λ i. sym no i || sym none i)
          (and_from _ _ (is_same_of (p.first.least +ℤ p.second.least) c (omega (arith, ints))) (is_same_of (p.first.greatest +ℤ p.second.greatest) c (omega (arith, ints))))
          ∙ true_told clamped b l unsure proper
          ∙ (λ i. sym is i ∷ [])

  module _ (sure : is_sure l b ≡ true) (shape : IsShapeOf k (AtMost l x y limit)) (first_proper : low_of b x ≤ℤ high_of b x) (second_proper : low_of b y ≤ℤ high_of b y) where
    floor_one : (r : ℤ) → floor_of r (pos 1) ≡ r
    floor_one r =
        let up = (quotients.floor_above_zero r (pos 1) r (omega (arith, ints))).1 (omega (arith, ints)) in
        let down = (quotients.floor_above_zero r (pos 1) (floor_of r (pos 1)) (omega (arith, ints))).0 (omega (arith, ints)) in
        omega (arith, ints)

    ceiling_minus : (r : ℤ) → ceiling_of r (negsuc 0) ≡ pos 0 -ℤ r
    ceiling_minus r =
        let down = (quotients.ceiling_below_zero r (negsuc 0) (pos 0 -ℤ r) (omega (arith, ints))).1 (omega (arith, ints)) in
        let up = (quotients.ceiling_below_zero r (negsuc 0) (ceiling_of r (negsuc 0)) (omega (arith, ints))).0 (omega (arith, ints)) in
        omega (arith, ints)

    abbrev rising : Room
    rising = record { rise = Some (c -ℤ (p.first.least +ℤ p.second.least)); fall = None }

    room_is : room_at_most b l c (sums_of_two p.first p.second) ≡ rising
    unfolding room_at_most
    room_is = (λ i. cond (sure i) rising (cond (is_out l b) (record { rise = None; fall = Some ((p.first.greatest +ℤ p.second.greatest) -ℤ (c +ℤ pos 1)) }) any_room))

    pub first_one : (p.first.least +ℤ p.second.greatest) ≤ℤ c → c <ℤ (p.first.greatest +ℤ p.second.least) → (t : Tell) → t ≡ record { var = x; side = High; bound = limit +ℤ high_of b y } → narrowing_tells k b ≡ t ∷ []
    unfolding least_of greatest_of
    first_one up down t is =
        let a = within.first.least in let g = within.first.greatest in let d = within.second.least in let h = within.second.greatest in
        let r = least_of b (pos 1, x) +ℤ (c -ℤ (p.first.least +ℤ p.second.least)) in
        let value : floor_of r (pos 1) ≡ limit +ℤ high_of b y = floor_one r ∙ omega (arith, ints, clamps) in
        at_most_first quotients clamped b k l x y limit c read p within sure shape (room_at_most b l c (sums_of_two p.first p.second)) refl up
        ∙ (λ i. narrowing b (room_tells b (room_is i) (pos 1, x)))
        ∙ (λ i. narrowing b (high_tell x (value i) ∷ []))
        ∙ high_told clamped b x (limit +ℤ high_of b y) within.first.bounds.low within.first.bounds.high (omega (arith, ints, clamps)) (omega (arith, ints, clamps)) t is

    pub second_one : (p.first.greatest +ℤ p.second.least) ≤ℤ c → c <ℤ (p.first.least +ℤ p.second.greatest) → (t : Tell) → t ≡ record { var = y; side = Low; bound = low_of b x -ℤ limit } → narrowing_tells k b ≡ t ∷ []
    unfolding least_of greatest_of
    second_one up down t is =
        let a = within.first.least in let g = within.first.greatest in let d = within.second.least in let h = within.second.greatest in
        let r = least_of b (negsuc 0, y) +ℤ (c -ℤ (p.first.least +ℤ p.second.least)) in
        let value : ceiling_of r (negsuc 0) ≡ low_of b x -ℤ limit = ceiling_minus r ∙ omega (arith, ints, clamps) in
        at_most_second quotients clamped b k l x y limit c read p within sure shape (room_at_most b l c (sums_of_two p.first p.second)) refl up
        ∙ (λ i. narrowing b (room_tells b (room_is i) (negsuc 0, y)))
        ∙ (λ i. narrowing b (low_tell y (value i) ∷ []))
        ∙ low_told clamped b y (low_of b x -ℤ limit) within.second.bounds.low within.second.bounds.high (omega (arith, ints, clamps)) (omega (arith, ints, clamps)) t is
