-- Kernels that are one-sided are as quiet as before, and rest as long, where no bound moved that they read.
use Rattle.std.proofs.Common.{◌≡◌, ℕ, zero, suc, ◌<◌, ◌==◌, ◌≤ℤ◌, ℤ, pos, Bool, true, false, cond, ◌||◌, ◌&&◌, List, [], ◌∷◌, length, get_or, map, refl, sym, ◌∙◌, ap, subst, ◌⊎◌, inl, inr, arith}
use Rattle.std.specs.List.{All, range_with_len}
use Rattle.std.proofs.lemmas.Int.{ints}
use Rattle.std.proofs.lemmas.Bool.{true≢false, and_parts, and_from}
use Rattle.std.proofs.lemmas.Bool.Decides.{Decides-eqb}
use Rattle.std.proofs.lemmas.List.{get_or_default}
use Rattle.std.proofs.lemmas.List.FromFn.{length-map-range_with_len, get_or-map-range_with_len}
use Rattle.interval.specs.Boxes.{Bounds, low_of, high_of, IsInside, InsideOrder}
use Rattle.guarded_tell.specs.declared.kernel.Kernel.{Kernel}
use Rattle.guarded_tell.specs.Words.{Side, Low, High, Keeps, IsProperIn}
use Rattle.guarded_tell.specs.Kernels.{vars_of, tells, IsKernel, IsClosedUnder}
use Rattle.kernel_visits.specs.Rests.{IsFixedAt, FixesNoOther, IsQuietUntilFixed}
use Rattle.kernel_visits.specs.Sides.{sides_of, SameSide, Reads, AgreeInRead, IsOneSided}
use Rattle.moved_fixpoint.proofs.Telling.{keeps_inside}

-- what is told on a box is placed
abbrev pub Placed : Type 0
Placed = (k : Kernel) (b : Bounds) → IsKernel (length b) k → All (λ t. t.var < length b) (tells k b)

-- a box inside keeps what the outer one does
pub kept_inside : Placed → (k : Kernel) (outer inner : Bounds) → IsKernel (length outer) k → IsInside inner outer → All (Keeps outer) (tells k outer) → All (Keeps inner) (tells k outer)
kept_inside place k outer inner kernel inside kept i d h = keeps_inside outer inner (get_or (tells k outer) i d) (place k outer kernel i d h) inside (kept i d h)

-- a one-sided kernel that is quiet on a box is so on one inside it with the same of the bounds that it reads
pub sided_closed : Placed → (k : Kernel) (outer inner : Bounds) → IsKernel (length outer) k → IsOneSided k inner → IsInside inner inner → IsInside inner outer → IsProperIn (vars_of k) inner
    → AgreeInRead k outer inner → IsClosedUnder k outer → IsClosedUnder k inner
sided_closed place k outer inner kernel sided itself inside proper agree closed = sided outer inner itself inside proper agree (kept_inside place k outer inner kernel inside closed.kept)

-- ---- which bounds are read

is_side : Side → Side → Bool
is_side Low Low = true
is_side Low High = false
is_side High Low = false
is_side High High = true

is_side_itself : (s : Side) → is_side s s ≡ true
unfolding is_side
is_side_itself Low = refl
is_side_itself High = refl

is_side_same : (s t : Side) → is_side s t ≡ true → s ≡ t
unfolding is_side
is_side_same Low Low e = refl
is_side_same Low High e = absurd (true≢false (sym e))
is_side_same High Low e = absurd (true≢false (sym e))
is_side_same High High e = refl

-- some place of the variable has this side
has_read : List Side → List ℕ → Side → ℕ → Bool
has_read [] vars side v = false
has_read (s ∷ ss) [] side v = false
has_read (s ∷ ss) (x ∷ xs) side v = (is_side s side && (x == v)) || has_read ss xs side v

or_left : (a b : Bool) → a ≡ true → (a || b) ≡ true
or_left true b e = refl
or_left false b e = absurd (true≢false (sym e))

or_right : (a b : Bool) → b ≡ true → (a || b) ≡ true
or_right true b e = refl
or_right false b e = e

read_here : (sides : List Side) (vars : List ℕ) (side : Side) (i : ℕ) → i < length sides → i < length vars → get_or sides i side ≡ side → has_read sides vars side (get_or vars i 0) ≡ true
unfolding has_read
read_here [] vars side i h l e = absurd (omega arith)
read_here (s ∷ ss) [] side i h l e = absurd (omega arith)
read_here (s ∷ ss) (x ∷ xs) side zero h l e =
    or_left (is_side s side && (x == x)) (has_read ss xs side x) (and_from (is_side s side) (x == x) (ap (λ (t : Side). is_side t side) e ∙ is_side_itself side) ((Decides-eqb x x).1 refl))
read_here (s ∷ ss) (x ∷ xs) side (suc i) h l e =
    or_right (is_side s side && (x == get_or xs i 0)) (has_read ss xs side (get_or xs i 0)) (read_here ss xs side i (omega arith) (omega arith) e)

-- where a bound is read, there is such a place
IsReadAt : List Side → List ℕ → Side → ℕ → Type 0
IsReadAt sides vars side v = (i : ℕ) × (i < length sides) × (i < length vars) × (get_or sides i side ≡ side) × (get_or vars i 0 ≡ v)

read_there : (sides : List Side) (vars : List ℕ) (side : Side) (v : ℕ) → has_read sides vars side v ≡ true → IsReadAt sides vars side v
unfolding has_read IsReadAt
read_there [] vars side v e = absurd (true≢false (sym e))
read_there (s ∷ ss) [] side v e = absurd (true≢false (sym e))
read_there (s ∷ ss) (x ∷ xs) side v e = by (λ f. read_there ss xs side v f) (is_side s side && (x == v)) refl e
  where
    by : (has_read ss xs side v ≡ true → IsReadAt ss xs side v) → (b : Bool) → (is_side s side && (x == v)) ≡ b → (b || has_read ss xs side v) ≡ true → IsReadAt (s ∷ ss) (x ∷ xs) side v
    by rest true is f = let parts = and_parts (is_side s side) (x == v) is in (0, omega arith, omega arith, is_side_same s side parts.0, (Decides-eqb x v).0 parts.1)
    by rest false is f = let q = rest f in let h = q.1 in let l = q.2 in (suc q.0, omega arith, omega arith, q.3, q.4)

-- ---- the box with the bounds that a kernel reads of one, and the others of another

-- by whether both of its bounds are read
module _ (k : Kernel) (before after c : Bounds) where
  reads : Side → ℕ → Bool
  reads side v = has_read (sides_of k) (vars_of k) side v

  low_then : ℕ → ℤ
  low_then v = cond (reads Low v) (low_of c v) (low_of before v)

  high_then : ℕ → ℤ
  high_then v = cond (reads High v) (high_of c v) (high_of before v)

  mixed : Bounds
  mixed = map (λ v. (low_then v, high_then v)) (range_with_len 0 (length before))

  mixed_length : length mixed ≡ length before
  unfolding mixed
  mixed_length = length-map-range_with_len (λ v. (low_then v, high_then v)) 0 (length before)

  mixed_low : (v : ℕ) → v < length before → low_of mixed v ≡ low_then v
  unfolding mixed
  mixed_low v h = ap (λ (p : ℤ × ℤ). p.0) (get_or-map-range_with_len (λ v. (low_then v, high_then v)) 0 (length before) v v (pos 0, pos 0) h (omega arith))

  mixed_high : (v : ℕ) → v < length before → high_of mixed v ≡ high_then v
  unfolding mixed
  mixed_high v h = ap (λ (p : ℤ × ℤ). p.1) (get_or-map-range_with_len (λ v. (low_then v, high_then v)) 0 (length before) v v (pos 0, pos 0) h (omega arith))

  -- a bound by whether it is read
  by_low : (v : ℕ) → v < length before → ((reads Low v ≡ true) × (low_of mixed v ≡ low_of c v)) ⊎ (low_of mixed v ≡ low_of before v)
  unfolding low_then
  by_low v h = by (reads Low v) refl
    where
      by : (b : Bool) → reads Low v ≡ b → ((reads Low v ≡ true) × (low_of mixed v ≡ low_of c v)) ⊎ (low_of mixed v ≡ low_of before v)
      by true e = inl (e, mixed_low v h ∙ ap (λ (t : Bool). cond t (low_of c v) (low_of before v)) e)
      by false e = inr (mixed_low v h ∙ ap (λ (t : Bool). cond t (low_of c v) (low_of before v)) e)

  by_high : (v : ℕ) → v < length before → ((reads High v ≡ true) × (high_of mixed v ≡ high_of c v)) ⊎ (high_of mixed v ≡ high_of before v)
  unfolding high_then
  by_high v h = by (reads High v) refl
    where
      by : (b : Bool) → reads High v ≡ b → ((reads High v ≡ true) × (high_of mixed v ≡ high_of c v)) ⊎ (high_of mixed v ≡ high_of before v)
      by true e = inl (e, mixed_high v h ∙ ap (λ (t : Bool). cond t (high_of c v) (high_of before v)) e)
      by false e = inr (mixed_high v h ∙ ap (λ (t : Bool). cond t (high_of c v) (high_of before v)) e)

  read_low : (v : ℕ) → v < length before → reads Low v ≡ true → low_of mixed v ≡ low_of c v
  unfolding low_then
  read_low v h e = mixed_low v h ∙ ap (λ (t : Bool). cond t (low_of c v) (low_of before v)) e

  read_high : (v : ℕ) → v < length before → reads High v ≡ true → high_of mixed v ≡ high_of c v
  unfolding high_then
  read_high v h e = mixed_high v h ∙ ap (λ (t : Bool). cond t (high_of c v) (high_of before v)) e

  module _ (in_before : IsInside c before) where
    low_between : (v : ℕ) → v < length before → (low_of before v ≤ℤ low_of mixed v) × (low_of mixed v ≤ℤ low_of c v)
    low_between v h = let rise = in_before.lows v h in elim (by_low v h) [ inl q ↦ let e = q.1 in (omega (arith, ints), omega (arith, ints)) | inr e ↦ (omega (arith, ints), omega (arith, ints)) ]

    high_between : (v : ℕ) → v < length before → (high_of mixed v ≤ℤ high_of before v) × (high_of c v ≤ℤ high_of mixed v)
    high_between v h = let fall = in_before.highs v h in elim (by_high v h) [ inl q ↦ let e = q.1 in (omega (arith, ints), omega (arith, ints)) | inr e ↦ (omega (arith, ints), omega (arith, ints)) ]

    mixed_inside : IsInside mixed before
    mixed_inside = record { same_length = mixed_length; lows = λ v h. (low_between v h).0; highs = λ v h. (high_between v h).0 }

    inside_mixed : IsInside c mixed
    inside_mixed = record {
      same_length = in_before.same_length ∙ sym mixed_length;
      lows = λ v h. (low_between v (let e = mixed_length in omega arith)).1;
      highs = λ v h. (high_between v (let e = mixed_length in omega arith)).1;
    }

    module _ (kernel : IsKernel (length before) k) (proper : IsProperIn (vars_of k) c) where
      mixed_proper : IsProperIn (vars_of k) mixed
      mixed_proper i h =
          let at : get_or (vars_of k) i 0 < length before = kernel.variables.each i h in
          let l = low_between (get_or (vars_of k) i 0) at in
          let u = high_between (get_or (vars_of k) i 0) at in
          let p = proper i h in
          let l1 = l.1 in let u1 = u.1 in omega (arith, ints)

      agree_mixed : AgreeInRead k mixed c
      unfolding reads
      agree_mixed i Low h (l, e) = read_low (get_or (vars_of k) i 0) (kernel.variables.each i h) (read_here (sides_of k) (vars_of k) Low i l h e)
      agree_mixed i High h (l, e) = read_high (get_or (vars_of k) i 0) (kernel.variables.each i h) (read_here (sides_of k) (vars_of k) High i l h e)

      -- the bounds that are read of variables that are fixed then didn't move
      module _ (in_after : IsInside after before) (in_box : IsInside c after) (fixes : FixesNoOther (vars_of k) after c)
          (still : (i : ℕ) (side : Side) → i < length (vars_of k) → Reads k i side → IsFixedAt after (get_or (vars_of k) i 0) → SameSide side after before (get_or (vars_of k) i 0)) where
        still_low : (v : ℕ) → reads Low v ≡ true → IsFixedAt after v → low_of after v ≡ low_of before v
        unfolding reads IsReadAt
        still_low v e fixed =
            let q = read_there (sides_of k) (vars_of k) Low v e in
            subst (λ (w : ℕ). low_of after w ≡ low_of before w) q.4 (still q.0 Low q.2 (q.1, q.3) (subst (λ (w : ℕ). IsFixedAt after w) (sym q.4) fixed))

        still_high : (v : ℕ) → reads High v ≡ true → IsFixedAt after v → high_of after v ≡ high_of before v
        unfolding reads IsReadAt
        still_high v e fixed =
            let q = read_there (sides_of k) (vars_of k) High v e in
            subst (λ (w : ℕ). high_of after w ≡ high_of before w) q.4 (still q.0 High q.2 (q.1, q.3) (subst (λ (w : ℕ). IsFixedAt after w) (sym q.4) fixed))

        -- one that is fixed in the mixed box was fixed before
        fixed_then : (i : ℕ) → i < length (vars_of k) → IsFixedAt mixed (get_or (vars_of k) i 0) → IsFixedAt before (get_or (vars_of k) i 0)
        fixed_then i h fixed =
            let v : ℕ = get_or (vars_of k) i 0 in
            let at : v < length before = kernel.variables.each i h in
            let ordered : low_of c v ≤ℤ high_of c v = proper i h in
            let l = (low_between v at).1 in
            let u = (high_between v at).1 in
            let c_fixed : IsFixedAt c v = omega (arith, ints) in
            let same = in_after.same_length in
            let a_fixed : IsFixedAt after v = fixes i 0 h c_fixed in
            let rise = in_box.lows v (omega arith) in
            let fall = in_box.highs v (omega arith) in
            let lows = low_between v at in
            let highs = high_between v at in
            elim (by_low v at) [
              | inr low_is ↦ elim (by_high v at) [
                | inr high_is ↦ sym low_is ∙ fixed ∙ high_is
                | inl q ↦ let kept = still_high v q.0 a_fixed in let q1 = q.1 in omega (arith, ints)
              ]
              | inl p ↦ let low_kept = still_low v p.0 a_fixed in let p1 = p.1 in elim (by_high v at) [
                | inr high_is ↦ omega (arith, ints)
                | inl q ↦ let kept = still_high v q.0 a_fixed in omega (arith, ints)
              ]
            ]

        quiet_mixed : Placed → InsideOrder → IsOneSided k after → IsQuietUntilFixed k before → IsClosedUnder k c
        quiet_mixed place order sided quiet =
            let same : length mixed ≡ length before = mixed_length in
            let closed = quiet mixed mixed_inside mixed_proper (λ i d h fixed.
            let e : get_or (vars_of k) i 0 ≡ get_or (vars_of k) i d = get_or_default (vars_of k) i 0 d h in
            subst (λ (w : ℕ). IsFixedAt before w) e (fixed_then i h (subst (λ (w : ℕ). IsFixedAt mixed w) (sym e) fixed))) in
            sided mixed c in_box inside_mixed proper agree_mixed (kept_inside place k mixed c (subst (λ (n : ℕ). IsKernel n k) (sym same) kernel) inside_mixed closed.kept)

-- so it rests on where no bound moved that it reads of a variable that is fixed then
pub sided_rests : Placed → InsideOrder → (k : Kernel) (before after : Bounds) → IsKernel (length before) k → IsInside after before → IsOneSided k after
    → ((i : ℕ) (side : Side) → i < length (vars_of k) → Reads k i side → IsFixedAt after (get_or (vars_of k) i 0) → SameSide side after before (get_or (vars_of k) i 0))
    → IsQuietUntilFixed k before → IsQuietUntilFixed k after
sided_rests place order k before after kernel inside sided still quiet c in_box proper fixes =
    quiet_mixed k before after c (order.through c after before in_box inside) kernel proper inside in_box fixes still place order sided quiet
