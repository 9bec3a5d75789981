-- A box that joins one tell.
use Rattle.std.proofs.Common.{◌≡◌, ◌≢◌, ℕ, ℤ, pos, ◌<◌, length, arith, ◌⊎◌, inl, inr, ap}
use Rattle.std.proofs.lemmas.Int.{ints, by_lt_z}
use Rattle.std.proofs.lemmas.List.{get_or-set_same, get_or-set_other}
use Rattle.interval.specs.Boxes.{Bounds, low_of, high_of, put_of, IsInside}
use Rattle.guarded_tell.specs.Words.{Tell}
use Rattle.guarded_tell.specs.Words.{Side}
use Rattle.guarded_tell.specs.Words.{Low, High}
use Rattle.guarded_tell.specs.Words.{Keeps, KeepsSide}
use Rattle.fixpoint_laws.specs.Changes.{IsTightening, TightensOne}
use Rattle.fixpoint_laws.specs.Rounds.{Narrows, NarrowsSide}
use Rattle.moved_fixpoint.specs.Heard.{told_low, told_high}
use Rattle.moved_fixpoint.specs.Runs.{SameAt}

-- the box with the bound of the tell
abbrev pub told_side : Bounds → Side → ℕ → ℤ → Bounds
told_side b s v x = put_of b v (told_low b s v x) (told_high b s v x)

abbrev pub told_box : Bounds → Tell → Bounds
told_box b t = told_side b t.side t.var t.bound

low_put : (b : Bounds) (v : ℕ) (low high : ℤ) → v < length b → low_of (put_of b v low high) v ≡ low
low_put b v low high h = ap (λ (p : ℤ × ℤ). p.0) (get_or-set_same b v (low, high) (pos 0, pos 0) h)

high_put : (b : Bounds) (v : ℕ) (low high : ℤ) → v < length b → high_of (put_of b v low high) v ≡ high
high_put b v low high h = ap (λ (p : ℤ × ℤ). p.1) (get_or-set_same b v (low, high) (pos 0, pos 0) h)

pub same_elsewhere : (b : Bounds) (v : ℕ) (low high : ℤ) (w : ℕ) → w ≢ v → SameAt (put_of b v low high) b w
same_elsewhere b v low high w ne = record {
  low = ap (λ (p : ℤ × ℤ). p.0) (get_or-set_other b v w (low, high) (pos 0, pos 0) ne);
  high = ap (λ (p : ℤ × ℤ). p.1) (get_or-set_other b v w (low, high) (pos 0, pos 0) ne);
}

keeps_or_narrows_side : (s : Side) (b : Bounds) (v : ℕ) (x : ℤ) → KeepsSide b s v x ⊎ NarrowsSide b s v x
keeps_or_narrows_side Low b v x = by_lt_z (low_of b v) x (λ h. inr h) (λ h. inl h)
keeps_or_narrows_side High b v x = by_lt_z x (high_of b v) (λ h. inr h) (λ h. inl h)

pub keeps_or_narrows : (b : Bounds) (t : Tell) → Keeps b t ⊎ Narrows b t
keeps_or_narrows b t = keeps_or_narrows_side t.side b t.var t.bound

tightening_side : (s : Side) (b : Bounds) (v : ℕ) (x : ℤ) → v < length b → NarrowsSide b s v x →
    IsTightening b v (told_low b s v x) (told_high b s v x)
tightening_side Low b v x h n = record { variable = h; low_rises = omega (arith, ints); high_falls = omega (arith, ints) }
tightening_side High b v x h n = record { variable = h; low_rises = omega (arith, ints); high_falls = omega (arith, ints) }

pub tightening : (b : Bounds) (t : Tell) → t.var < length b → Narrows b t →
    IsTightening b t.var (told_low b t.side t.var t.bound) (told_high b t.side t.var t.bound)
tightening b t h n = tightening_side t.side b t.var t.bound h n

told_side_holds : TightensOne → (s : Side) (b c : Bounds) (v : ℕ) (x : ℤ) → v < length b → IsInside c b → KeepsSide c s v x → IsInside c (told_side b s v x)
told_side_holds tightens Low b c v x h i k = tightens.holds b c v x (high_of b v) h i k (i.highs v h)
told_side_holds tightens High b c v x h i k = tightens.holds b c v (low_of b v) x h i (i.lows v h) k

pub told_holds : TightensOne → (b c : Bounds) (t : Tell) → t.var < length b → IsInside c b → Keeps c t → IsInside c (told_box b t)
told_holds tightens b c t h i k = told_side_holds tightens t.side b c t.var t.bound h i k

told_side_kept : (s : Side) (b : Bounds) (v : ℕ) (x : ℤ) → v < length b → KeepsSide (told_side b s v x) s v x
told_side_kept Low b v x h = let e = low_put b v x (high_of b v) h in omega (arith, ints)
told_side_kept High b v x h = let e = high_put b v (low_of b v) x h in omega (arith, ints)

pub told_kept : (b : Bounds) (t : Tell) → t.var < length b → Keeps (told_box b t) t
told_kept b t h = told_side_kept t.side b t.var t.bound h

told_side_moves : (s : Side) (b : Bounds) (v : ℕ) (x : ℤ) → v < length b → NarrowsSide b s v x → told_side b s v x ≢ b
told_side_moves Low b v x h n e =
    let new : low_of (put_of b v x (high_of b v)) v ≡ x = low_put b v x (high_of b v) h in
    let old : low_of (put_of b v x (high_of b v)) v ≡ low_of b v = ap (λ (c : Bounds). low_of c v) e in
    absurd (omega (arith, ints))
told_side_moves High b v x h n e =
    let new : high_of (put_of b v (low_of b v) x) v ≡ x = high_put b v (low_of b v) x h in
    let old : high_of (put_of b v (low_of b v) x) v ≡ high_of b v = ap (λ (c : Bounds). high_of c v) e in
    absurd (omega (arith, ints))

pub told_moves : (b : Bounds) (t : Tell) → t.var < length b → Narrows b t → told_box b t ≢ b
told_moves b t h n = told_side_moves t.side b t.var t.bound h n

-- the bounds that were put are those of the box
pub put_low : (b : Bounds) (v : ℕ) (low high : ℤ) → v < length b → low_of (put_of b v low high) v ≡ low
put_low = low_put

pub put_high : (b : Bounds) (v : ℕ) (low high : ℤ) → v < length b → high_of (put_of b v low high) v ≡ high
put_high = high_put

-- what a box keeps, a box inside it keeps
keeps_side_inside : (s : Side) (b c : Bounds) (v : ℕ) (x : ℤ) → v < length b → IsInside c b → KeepsSide b s v x → KeepsSide c s v x
keeps_side_inside Low b c v x h i k = let l = i.lows v h in omega (arith, ints)
keeps_side_inside High b c v x h i k = let l = i.highs v h in omega (arith, ints)

pub keeps_inside : (b c : Bounds) (t : Tell) → t.var < length b → IsInside c b → Keeps b t → Keeps c t
keeps_inside b c t h i k = keeps_side_inside t.side b c t.var t.bound h i k
