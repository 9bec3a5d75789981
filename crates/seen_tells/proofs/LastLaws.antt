-- A kernel that has one tell, and rests for good once it is joined.
use Rattle.std.proofs.Common.{◌≡◌, ℕ, [], ◌∷◌, length, Option, None, Some, Bool, true, false, not, ◌&&◌, ℤ, pos, negsuc, ◌+ℤ◌, ◌-ℤ◌, ◌*ℤ◌, ◌≤ℤ◌, ◌<ℤ◌, ◌⊎◌, inl, inr, ⊎_elim, to_z, of_z, refl, sym, subst, ◌∙◌, arith}
use Rattle.std.proofs.lemmas.Int.{ints, clamps}
use Rattle.std.specs.Prelude.{MatchOption}
use Rattle.std.proofs.lemmas.Bool.{true≢false, and_from, OnTrue_from}
use Rattle.std.specs.Int.RustNames.{int_le}
use mir.Syntax.{w64}
use Rattle.tells.specs.declared.tell.Lit.{Lit}
use Rattle.tells.specs.declared.tell.Tell.{Tell}
use Rattle.interval.specs.Limits.{IsBound, clamp_of, ClampOrder}
use Rattle.interval.specs.Quotients.{QuotientOrder}
use Rattle.interval.specs.Boxes.{Bounds, low_of, high_of, IsInside}
use Rattle.small_sums.specs.declared.pairs.Pair.{Pair}
use Rattle.guarded_tell.specs.declared.kernel.Kernel.{Kernel}
use Rattle.kernel_visits.specs.declared.shape.Shape.TheVariants.{AtMost, Same, Either, Triple}
use Rattle.kernel_visits.specs.declared.resting.Rest.TheVariants.{ForGood}
use Rattle.seen_tells.specs.declared.seen.Sole.{Sole}
use Rattle.guarded_tell.specs.Words.{Keeps, IsProperIn, is_sure, is_out, sign_true, sign_tell, tell_true, tell_false}
use Rattle.sum_tells.specs.Linear.{least_of, greatest_of}
use Rattle.sum_tells.specs.Equality.{is_same, product_is_not}
use Rattle.tell_laws.specs.Narrowing.{narrowing}
use Rattle.small_sums.specs.Short.{sums_of_two}
use Rattle.guarded_tell.specs.Kernels.{vars_of, IsKernel, IsClosedUnder}
use Rattle.kernel_visits.specs.Shapes.{IsDifferenceIn, IsShapeOf}
use Rattle.kernel_visits.specs.Narrowing.{narrowing_tells}
use Rattle.kernel_visits.specs.Rests.{IsEntailed}
use Rattle.seen_tells.specs.Seen.{IsEntailedBy, IsSole, MovesOff}
use Rattle.sum_tells.proofs.EqualityLaws.{is_same_of}
use Rattle.small_sums.proofs.PairLaws.{plain_term, opposite_term}
use Rattle.kernel_visits.proofs.ShapeQuiet.{HasPlaces, at_most_places, same_places, either_places, triple_places, difference_sums}
use Rattle.kernel_visits.proofs.RestLaws.{lies, out_lies, low_bound, high_bound, kernel_in, found, at_most_entailed, same_entailed, either_entailed, triple_entailed}
use Rattle.kernel_visits.proofs.SettledLaws.{equation_rests}
use Rattle.seen_tells.proofs.ApartLaws.{apart_first, apart_second}
use Rattle.seen_tells.proofs.OneLaws.{sign_not, one_same, none_same, true_told, low_left, high_left, either_first, either_second, triple_first_one, triple_second_one, triple_third_one}

-- one tell of the kernel narrows the box, and the kernel may rest for good once it is joined
abbrev pub IsLast : Kernel → Bounds → Tell → Type 0
IsLast k b t = (narrowing_tells k b ≡ t ∷ []) × IsEntailedBy t k b

-- that is its sole tell
last_sole : (k : Kernel) (b : Bounds) (s : Sole) → IsLast k b s.tell → IsSole k b s
last_sole k b s h = record { one = h.0; last = OnTrue_from s.is_last (IsEntailedBy s.tell k b) (λ e. h.1) }

-- what a function that sees at most a last tell says of the kernel
pub seen_by : (k : Kernel) (b : Bounds) (P : Tell → Type 0) (o : Option Sole) → ((t : Tell) → P t → IsLast k b t) → MatchOption o (Unit {0}) (λ (s : Sole). (s.is_last ≡ true) × P s.tell)
    → MatchOption o (Unit {0}) (IsSole k b)
seen_by k b P None f h = tt
seen_by k b P (Some s) f h = last_sole k b s (f s.tell h.1)

-- the tell as the code forms it
last_as : (k : Kernel) (b : Bounds) (t u : Tell) → t ≡ u → narrowing_tells k b ≡ t ∷ [] → IsEntailedBy u k b → IsLast k b t
last_as k b t u e told entailed = (told, subst (λ (v : Tell). IsEntailedBy v k b) (sym e) entailed)

pub sole_last : (k : Kernel) (b : Bounds) (s : Sole) (t u : Tell) → s.tell ≡ t → t ≡ u → narrowing_tells k b ≡ t ∷ [] → IsEntailedBy u k b → IsSole k b s
sole_last k b s t u is e told entailed = last_sole k b s (subst (λ (v : Tell). IsLast k b v) (sym is) (last_as k b t u e told entailed))

-- a tell after which the kernel may need visits
pub sole_one : (k : Kernel) (b : Bounds) (s : Sole) → s.is_last ≡ false → narrowing_tells k b ≡ s.tell ∷ [] → IsSole k b s
sole_one k b s not_last told = record { one = told; last = OnTrue_from s.is_last (IsEntailedBy s.tell k b) (λ e. absurd (true≢false (sym e ∙ not_last))) }

-- a literal that is neither sure nor out is told true
abbrev pub ToldTrue : Bounds → Lit → Tell → Type 0
ToldTrue b l t = (is_sure l b ≡ false) × (is_out l b ≡ false) × (t ≡ tell_true l)

pub told_by : (k : Kernel) (b : Bounds) (l : Lit) (o : Option Sole) → ((t : Tell) → ToldTrue b l t → IsLast k b t)
    → MatchOption o (Unit {0}) (λ (s : Sole). (s.is_last ≡ true) × (is_sure l b ≡ false) × (is_out l b ≡ false) × (s.tell ≡ tell_true l)) → MatchOption o (Unit {0}) (IsSole k b)
told_by k b l None f h = tt
told_by k b l (Some s) f h = last_sole k b s (f s.tell (h.1, h.2, h.3))

-- numbers that differ aren't the same
differs : (y z : ℤ) → y <ℤ z → is_same y z ≡ false
differs y z h = let yes : true ≡ int_le y z = omega (arith, ints) in let no : false ≡ int_le z y = omega (arith, ints) in (λ i. sym yes i && sym no i)

exceeds : (y z : ℤ) → z <ℤ y → is_same y z ≡ false
exceeds y z h = let no : false ≡ int_le y z = omega (arith, ints) in (λ i. sym no i && int_le z y)

-- ---- a literal whose tell is kept is sure, or out

module _ (clamped : ClampOrder) (c : Bounds) where
  sign_kept : (s : Bool) (v : ℕ) → low_of c v ≤ℤ high_of c v → Keeps c (sign_tell s v) → (sign_true s (low_of c v) && sign_true s (high_of c v)) ≡ true
  sign_kept true v proper keeps =
      let kept : clamp_of (pos 1) ≤ℤ low_of c v = keeps in
      let one = one_same clamped c in
      let low : true ≡ int_le (pos 1) (low_of c v) = omega (arith, ints) in
      let high : true ≡ int_le (pos 1) (high_of c v) = omega (arith, ints) in
      and_from _ _ (sym low) (sym high)
  sign_kept false v proper keeps =
      let kept : high_of c v ≤ℤ clamp_of (pos 0) = keeps in
      let none = none_same clamped c in
      let low : true ≡ int_le (low_of c v) (pos 0) = omega (arith, ints) in
      let high : true ≡ int_le (high_of c v) (pos 0) = omega (arith, ints) in
      and_from _ _ (sym low) (sym high)

  sure_kept : (l : Lit) → low_of c l.var ≤ℤ high_of c l.var → Keeps c (tell_true l) → is_sure l c ≡ true
  unfolding is_sure
  sure_kept l proper keeps = sign_kept l.positive l.var proper keeps

  out_kept : (l : Lit) → low_of c l.var ≤ℤ high_of c l.var → Keeps c (tell_false l) → is_out l c ≡ true
  unfolding is_out
  out_kept l proper keeps =
      (λ i. sign_not l.positive (low_of c l.var) i && sign_not l.positive (high_of c l.var) i) ∙ sign_kept (not l.positive) l.var proper keeps

module _ (quotients : QuotientOrder) (clamped : ClampOrder) (b : Bounds) (k : Kernel) (kernel : IsKernel (length b) k) where
  -- a kernel that is entailed in a box is closed there
  closed : (c : Bounds) → IsProperIn (vars_of k) c → IsEntailed k c → IsClosedUnder k c
  closed c proper entailed = entailed c (record { same_length = refl; lows = λ v h. omega (arith, ints); highs = λ v h. omega (arith, ints) }) proper

  -- ---- differences whose literal is told

  module _ (l : Lit) (x y : ℕ) (limit : ℤ) (p : Pair) (within : IsDifferenceIn b x y p) where
    abbrev coded : ℤ
    coded = to_z w64 (of_z w64 limit)

    module _ (shape : IsShapeOf k (AtMost l x y limit)) where
      pub at_most_true_last : (p.first.greatest +ℤ p.second.greatest) ≤ℤ coded → IsEntailedBy (tell_true l) k b
      at_most_true_last most c inside proper keeps =
          let kc = kernel_in quotients clamped b k kernel c inside in
          let places = at_most_places k c l x y limit kc proper shape in
          let f = found quotients clamped b k kernel l x y limit p within c inside places in
          let t = f.terms in
          let g1 = t.first_greatest in let g2 = t.second_greatest in
          closed c proper
          (at_most_entailed quotients clamped c k kc l x y limit t.now t.are shape
          (inl (sure_kept clamped c l places.literal_proper keeps, omega (arith, ints))))

      pub at_most_false_last : coded <ℤ (p.first.least +ℤ p.second.least) → IsEntailedBy (tell_false l) k b
      at_most_false_last less c inside proper keeps =
          let kc = kernel_in quotients clamped b k kernel c inside in
          let places = at_most_places k c l x y limit kc proper shape in
          let f = found quotients clamped b k kernel l x y limit p within c inside places in
          let t = f.terms in
          let g1 = t.first_least in let g2 = t.second_least in
          closed c proper
          (at_most_entailed quotients clamped c k kc l x y limit t.now t.are shape
          (inr (out_kept clamped c l places.literal_proper keeps, omega (arith, ints))))

    module _ (shape : IsShapeOf k (Same l x y limit)) where
      pub same_below_last : coded <ℤ (p.first.least +ℤ p.second.least) → IsEntailedBy (tell_false l) k b
      same_below_last less c inside proper keeps =
          let kc = kernel_in quotients clamped b k kernel c inside in
          let places = same_places k c l x y limit kc proper shape in
          let f = found quotients clamped b k kernel l x y limit p within c inside places in
          let t = f.terms in
          let g1 = t.first_least in let g2 = t.second_least in
          closed c proper
          (same_entailed quotients clamped c k kc l x y limit t.now t.are shape
          (out_kept clamped c l places.literal_proper keeps, inl (omega (arith, ints))))

      pub same_above_last : (p.first.greatest +ℤ p.second.greatest) <ℤ coded → IsEntailedBy (tell_false l) k b
      same_above_last less c inside proper keeps =
          let kc = kernel_in quotients clamped b k kernel c inside in
          let places = same_places k c l x y limit kc proper shape in
          let f = found quotients clamped b k kernel l x y limit p within c inside places in
          let t = f.terms in
          let g1 = t.first_greatest in let g2 = t.second_greatest in
          closed c proper
          (same_entailed quotients clamped c k kc l x y limit t.now t.are shape
          (out_kept clamped c l places.literal_proper keeps, inr (omega (arith, ints))))

      pub same_true_last : coded ≡ limit → coded ≤ℤ (p.first.least +ℤ p.second.least) → (p.first.greatest +ℤ p.second.greatest) ≤ℤ coded → IsEntailedBy (tell_true l) k b
      unfolding IsShapeOf
      same_true_last read low high c inside proper keeps = at shape
        where
          at : IsShapeOf k (Same l x y limit) → IsClosedUnder k c
          at (cs, vs, e, d) =
              let kc = kernel_in quotients clamped b k kernel c inside in
              let places = same_places k c l x y limit kc proper shape in
              let f = found quotients clamped b k kernel l x y limit p within c inside places in
              let t = f.terms in
              let g1 = t.first_least in let g2 = t.second_least in let g3 = t.first_greatest in let g4 = t.second_greatest in
              closed c proper
              (equation_rests quotients clamped c k kc l cs vs limit (sums_of_two t.now.first t.now.second) (difference_sums c x y t.now t.are cs vs d) e ForGood
              (inr (sure_kept clamped c l places.literal_proper keeps, omega (arith, ints), omega (arith, ints))))

  -- ---- differences that must not be the limit, and one of whose variables is told

  module _ (l : Lit) (x y : ℕ) (limit : ℤ) (read : to_z w64 (of_z w64 limit) ≡ limit) (out : is_out l b ≡ true) (shape : IsShapeOf k (Same l x y limit)) (places : HasPlaces b l x y)
      (first_low : IsBound (low_of b x)) (first_high : IsBound (high_of b x)) (second_low : IsBound (low_of b y)) (second_high : IsBound (high_of b y)) where
    -- the limit lies outside of what the variables of a box inside make
    apart_closed : (c : Bounds) → IsInside c b → IsProperIn (vars_of k) c → (limit <ℤ (low_of c x -ℤ high_of c y)) ⊎ ((high_of c x -ℤ low_of c y) <ℤ limit) → IsClosedUnder k c
    unfolding least_of greatest_of
    apart_closed c inside proper outside =
        let kc = kernel_in quotients clamped b k kernel c inside in
        let left = same_places k c l x y limit kc proper shape in
        let v = lies b c l.var inside places.literal left.literal_proper in
        let u = lies b c x inside places.first left.first_proper in
        let w = lies b c y inside places.second left.second_proper in
        let first = plain_term c x (low_of c x) (high_of c x) (low_bound b c x u first_low first_high) (high_bound b c x u first_low first_high) refl refl left.first_proper in
        let second = opposite_term c y (low_of c y) (high_of c y) (low_bound b c y w second_low second_high) (high_bound b c y w second_low second_high) refl refl left.second_proper in
        let a1 = first.least in let a2 = first.greatest in let a3 = second.least in let a4 = second.greatest in
        closed c proper
        (same_entailed quotients clamped c k kc l x y limit (record { first = _; second = _ }) (record { first = first; second = second }) shape
        (out_lies b c l v out, ⊎_elim (λ below. inl (omega (arith, ints, clamps))) (λ above. inr (omega (arith, ints, clamps))) outside))

    -- the first variable is told
    first_entailed : low_of b y ≡ high_of b y → (z : ℤ) → z ≡ limit +ℤ low_of b y → (t : Tell) → MovesOff b x z t → IsEntailedBy t k b
    first_entailed fixed z value t (inl (low, is)) c inside proper keeps =
        let kept : (low_of b x +ℤ pos 1) ≤ℤ low_of c x = subst (λ (u : Tell). Keeps c u) is keeps in
        let rest = inside.highs y places.second in
        apart_closed c inside proper (inl (omega (arith, ints)))
    first_entailed fixed z value t (inr (high, is)) c inside proper keeps =
        let kept : high_of c x ≤ℤ (high_of b x -ℤ pos 1) = subst (λ (u : Tell). Keeps c u) is keeps in
        let rest = inside.lows y places.second in
        apart_closed c inside proper (inr (omega (arith, ints)))

    -- the second variable is told
    second_entailed : low_of b x ≡ high_of b x → (z : ℤ) → z ≡ low_of b x -ℤ limit → (t : Tell) → MovesOff b y z t → IsEntailedBy t k b
    second_entailed fixed z value t (inl (low, is)) c inside proper keeps =
        let kept : (low_of b y +ℤ pos 1) ≤ℤ low_of c y = subst (λ (u : Tell). Keeps c u) is keeps in
        let rest = inside.highs x places.first in
        apart_closed c inside proper (inr (omega (arith, ints)))
    second_entailed fixed z value t (inr (high, is)) c inside proper keeps =
        let kept : high_of c y ≤ℤ (high_of b y -ℤ pos 1) = subst (λ (u : Tell). Keeps c u) is keeps in
        let rest = inside.lows x places.first in
        apart_closed c inside proper (inl (omega (arith, ints)))

    -- where the other is fixed, it is told so
    pub first_left_out : low_of b y ≡ high_of b y → low_of b x <ℤ high_of b x → (z : ℤ) → z ≡ limit +ℤ low_of b y → (t : Tell) → MovesOff b x z t → IsLast k b t
    first_left_out fixed wide z value t moves = (apart_first clamped b k l x y limit out shape fixed wide z value ∙ told moves, first_entailed fixed z value t moves)
      where
        told : MovesOff b x z t → narrowing b (product_is_not x (pos 1) z b) ≡ t ∷ []
        told (inl (low, is)) = low_left clamped b x first_low first_high wide (pos 1) z refl (is_same_of (pos 1 *ℤ low_of b x) z (omega (arith, ints))) t is
        told (inr (high, is)) = high_left clamped b x first_low first_high wide (pos 1) z refl (differs (pos 1 *ℤ low_of b x) z (omega (arith, ints))) (is_same_of (pos 1 *ℤ high_of b x) z (omega (arith, ints))) t is

    pub second_left_out : low_of b x ≡ high_of b x → low_of b y <ℤ high_of b y → (z : ℤ) → z ≡ low_of b x -ℤ limit → (t : Tell) → MovesOff b y z t → IsLast k b t
    second_left_out fixed wide z value t moves = (apart_second clamped b k l x y limit out shape fixed wide (limit -ℤ low_of b x) refl ∙ told moves, second_entailed fixed z value t moves)
      where
        told : MovesOff b y z t → narrowing b (product_is_not y (negsuc 0) (limit -ℤ low_of b x) b) ≡ t ∷ []
        told (inl (low, is)) = low_left clamped b y second_low second_high wide (negsuc 0) (limit -ℤ low_of b x) refl (is_same_of (negsuc 0 *ℤ low_of b y) (limit -ℤ low_of b x) (omega (arith, ints))) t is
        told (inr (high, is)) =
            high_left clamped b y second_low second_high wide (negsuc 0) (limit -ℤ low_of b x) refl (exceeds (negsuc 0 *ℤ low_of b y) (limit -ℤ low_of b x) (omega (arith, ints)))
            (is_same_of (negsuc 0 *ℤ high_of b y) (limit -ℤ low_of b x) (omega (arith, ints))) t is

  -- ---- clauses

  told_true : (l : Lit) (t : Tell) → low_of b l.var ≤ℤ high_of b l.var → ToldTrue b l t → (is_out l b ≡ false) × (narrowing b (tell_true l ∷ []) ≡ t ∷ [])
  told_true l t proper (unsure, possible, is) = (possible, true_told clamped b l unsure proper ∙ (λ i. sym is i ∷ []))

  -- a clause rests for good in a box that keeps a literal's tell
  either_kept : (l m : Lit) → IsShapeOf k (Either l m) → (c : Bounds) → IsInside c b → IsProperIn (vars_of k) c → Keeps c (tell_true l) ⊎ Keeps c (tell_true m) → IsClosedUnder k c
  either_kept l m shape c inside proper keeps =
      let kc = kernel_in quotients clamped b k kernel c inside in
      let places = either_places k c l m kc proper shape in
      closed c proper (either_entailed quotients clamped c k kc l m shape
      (⊎_elim (λ h. inl (sure_kept clamped c l places.first_proper h)) (λ h. inr (sure_kept clamped c m places.second_proper h)) keeps))

  triple_kept : (l m n : Lit) → IsShapeOf k (Triple l m n) → (c : Bounds) → IsInside c b → IsProperIn (vars_of k) c
      → Keeps c (tell_true l) ⊎ (Keeps c (tell_true m) ⊎ Keeps c (tell_true n)) → IsClosedUnder k c
  triple_kept l m n shape c inside proper keeps =
      let kc = kernel_in quotients clamped b k kernel c inside in
      let places = triple_places k c l m n kc proper shape in
      closed c proper (triple_entailed quotients clamped c k kc l m n shape
      (⊎_elim (λ h. inl (sure_kept clamped c l places.first_proper h))
      (⊎_elim (λ h. inr (inl (sure_kept clamped c m places.second_proper h))) (λ h. inr (inr (sure_kept clamped c n places.third_proper h)))) keeps))

  module _ (l m : Lit) (shape : IsShapeOf k (Either l m)) (proper : IsProperIn (vars_of k) b) (t : Tell) where
    pub either_first_last : is_out m b ≡ true → ToldTrue b l t → IsLast k b t
    either_first_last second told =
        let places = either_places k b l m kernel proper shape in
        last_as k b t (tell_true l) told.2 (either_first b k l m shape t second (told_true l t places.first_proper told))
        (λ c inside left keeps. either_kept l m shape c inside left (inl keeps))

    pub either_second_last : is_out l b ≡ true → ToldTrue b m t → IsLast k b t
    either_second_last first told =
        let places = either_places k b l m kernel proper shape in
        last_as k b t (tell_true m) told.2 (either_second b k l m shape t first (told_true m t places.second_proper told))
        (λ c inside left keeps. either_kept l m shape c inside left (inr keeps))

  module _ (l m n : Lit) (shape : IsShapeOf k (Triple l m n)) (proper : IsProperIn (vars_of k) b) (t : Tell) where
    pub triple_first_last : is_out m b ≡ true → is_out n b ≡ true → ToldTrue b l t → IsLast k b t
    triple_first_last second third told =
        let places = triple_places k b l m n kernel proper shape in
        last_as k b t (tell_true l) told.2 (triple_first_one b k l m n shape t second third (told_true l t places.first_proper told))
        (λ c inside left keeps. triple_kept l m n shape c inside left (inl keeps))

    pub triple_second_last : is_out l b ≡ true → is_out n b ≡ true → ToldTrue b m t → IsLast k b t
    triple_second_last first third told =
        let places = triple_places k b l m n kernel proper shape in
        last_as k b t (tell_true m) told.2 (triple_second_one b k l m n shape t first third (told_true m t places.second_proper told))
        (λ c inside left keeps. triple_kept l m n shape c inside left (inr (inl keeps)))

    pub triple_third_last : is_out l b ≡ true → is_out m b ≡ true → ToldTrue b n t → IsLast k b t
    triple_third_last first second told =
        let places = triple_places k b l m n kernel proper shape in
        last_as k b t (tell_true n) told.2 (triple_third_one b k l m n shape t first second (told_true n t places.third_proper told))
        (λ c inside left keeps. triple_kept l m n shape c inside left (inr (inr keeps)))
