-- A box that joins one tell.
use Rattle.std.proofs.Common.{◌≡◌, ◌≢◌, ℕ, ℤ, ◌<◌, length, arith, ◌⊎◌, inl, inr, ap}
use Rattle.std.proofs.lemmas.Int.{ints, by_lt_z}
use Rattle.interval.specs.Boxes.{Bounds, low_of, high_of, put_of, IsInside, IsInRange}
use Rattle.interval.specs.Limits.{IsBound}
use Rattle.guarded_tell.specs.Words.{Tell}
use Rattle.guarded_tell.specs.Words.{Side}
use Rattle.guarded_tell.specs.Words.{Low, High}
use Rattle.guarded_tell.specs.Words.{Keeps, KeepsSide}
use Rattle.fixpoint_laws.specs.Rounds.{Narrows, NarrowsSide, told, told_side}
use Rattle.fixpoint_laws.proofs.Boxes.{get_put, length_put}
use Rattle.fixpoint_laws.proofs.Pair.{put_inside, put_holds, low_put, high_put}

keeps_or_narrows_side : (s : Side) (b : Bounds) (v : ℕ) (x : ℤ) → KeepsSide b s v x ⊎ NarrowsSide b s v x
keeps_or_narrows_side Low b v x = by_lt_z (low_of b v) x (λ h. inr h) (λ h. inl h)
keeps_or_narrows_side High b v x = by_lt_z x (high_of b v) (λ h. inr h) (λ h. inl h)

pub keeps_or_narrows : (b : Bounds) (t : Tell) → Keeps b t ⊎ Narrows b t
keeps_or_narrows b t = keeps_or_narrows_side t.side b t.var t.bound

told_side_inside : (s : Side) (b : Bounds) (v : ℕ) (x : ℤ) → v < length b → NarrowsSide b s v x → IsInside (told_side b s v x) b
told_side_inside Low b v x h n =
    put_inside b v x (high_of b v) (record { variable = h; low_rises = omega (arith, ints); high_falls = omega (arith, ints) })
told_side_inside High b v x h n =
    put_inside b v (low_of b v) x (record { variable = h; low_rises = omega (arith, ints); high_falls = omega (arith, ints) })

pub told_inside : (b : Bounds) (t : Tell) → t.var < length b → Narrows b t → IsInside (told b t) b
told_inside b t h n = told_side_inside t.side b t.var t.bound h n

told_side_holds : (s : Side) (b c : Bounds) (v : ℕ) (x : ℤ) → v < length b → IsInside c b → KeepsSide c s v x → IsInside c (told_side b s v x)
told_side_holds Low b c v x h i k = put_holds b c v x (high_of b v) h i k (i.highs v h)
told_side_holds High b c v x h i k = put_holds b c v (low_of b v) x h i (i.lows v h) k

pub told_holds : (b c : Bounds) (t : Tell) → t.var < length b → IsInside c b → Keeps c t → IsInside c (told b t)
told_holds b c t h i k = told_side_holds t.side b c t.var t.bound h i k

told_side_moves : (s : Side) (b : Bounds) (v : ℕ) (x : ℤ) → v < length b → NarrowsSide b s v x → told_side b s v x ≢ b
told_side_moves Low b v x h n e =
    let new : low_of (put_of b v x (high_of b v)) v ≡ x = low_put b v x (high_of b v) h in
    let old : low_of (put_of b v x (high_of b v)) v ≡ low_of b v = ap (λ (c : Bounds). low_of c v) e in
    absurd (omega (arith, ints))
told_side_moves High b v x h n e =
    let new : high_of (put_of b v (low_of b v) x) v ≡ x = high_put b v (low_of b v) x h in
    let old : high_of (put_of b v (low_of b v) x) v ≡ high_of b v = ap (λ (c : Bounds). high_of c v) e in
    absurd (omega (arith, ints))

pub told_moves : (b : Bounds) (t : Tell) → t.var < length b → Narrows b t → told b t ≢ b
told_moves b t h n = told_side_moves t.side b t.var t.bound h n

put_in_range : (b : Bounds) (v : ℕ) (low high : ℤ) → v < length b → IsInRange b → IsBound low → IsBound high → IsInRange (put_of b v low high)
put_in_range b v low high h r x y = record {
  short = let e : length (put_of b v low high) ≡ length b = length_put b v low high in let s = r.short in omega arith;
  lows = λ w k. let k' : w < length b = omega (arith, length_put b v low high) in elim (get_put b v low high w h) [
    | inl p ↦ rw p.1 x
    | inr p ↦ rw p.0 (r.lows w k')
  ];
  highs = λ w k. let k' : w < length b = omega (arith, length_put b v low high) in elim (get_put b v low high w h) [
    | inl p ↦ rw p.2 y
    | inr p ↦ rw p.1 (r.highs w k')
  ];
}

told_side_in_range : (s : Side) (b : Bounds) (v : ℕ) (x : ℤ) → v < length b → IsInRange b → IsBound x → IsInRange (told_side b s v x)
told_side_in_range Low b v x h r k = put_in_range b v x (high_of b v) h r k (r.highs v h)
told_side_in_range High b v x h r k = put_in_range b v (low_of b v) x h r (r.lows v h) k

pub told_in_range : (b : Bounds) (t : Tell) → t.var < length b → IsInRange b → IsBound t.bound → IsInRange (told b t)
told_in_range b t h r k = told_side_in_range t.side b t.var t.bound h r k
