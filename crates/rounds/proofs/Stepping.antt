-- Seats that step.
use Rattle.std.proofs.Common.{◌≡◌, ◌≢◌, ℕ, ℤ, ◌<◌, ◌≤ℤ◌, ◌<ℤ◌, Bool, true, false, length, refl, sym, ap, subst, ◌∙◌, arith, inl, inr}
use Rattle.std.specs.Bool.{OnTrue, OnFalse}
use Rattle.std.proofs.lemmas.Bool.{true≢false, OnTrue_from, OnFalse_from}
use Rattle.std.proofs.lemmas.Int.{ints}
use Rattle.interval.specs.Boxes.{Bounds, low_of, high_of, put_of, IsInside}
use Rattle.guarded_tell.specs.Words.{Tell}
use Rattle.guarded_tell.specs.Words.{Side}
use Rattle.guarded_tell.specs.Words.{Low, High}
use Rattle.guarded_tell.specs.Words.{Keeps, KeepsSide}
use Rattle.lattice_store.specs.declared.seat.Seat.{Seat}
use Rattle.lattice_store.specs.Seats.{seen_of, IsSameSeat}
use Rattle.rounds.specs.Steps.{Stepped}
use Rattle.rounds.proofs.BoxLaws.{inside_through, inside_same, put_inside, put_same, inside_both, low_put, high_put}

pub same_itself : (s : Seat) → IsSameSeat s s
same_itself s = record { store = refl; epoch = refl; floor = refl; first = refl; past = λ p. p }

pub same_through : (a b c : Seat) → IsSameSeat a b → IsSameSeat b c → IsSameSeat a c
same_through a b c s t = record {
  store = t.store ∙ s.store;
  epoch = t.epoch ∙ s.epoch;
  floor = t.floor ∙ s.floor;
  first = t.first ∙ s.first;
  past = λ p. t.past (s.past p);
}

pub still : (b a : Seat) (m : Bool) → IsSameSeat b a → seen_of a ≡ seen_of b → Stepped b m a m
still b a m s e = record { same = s; inside = inside_same (seen_of a) (seen_of b) e; still = λ f. (f, e); moves = λ f. inl f }

pub moved : (b a : Seat) (m : Bool) → IsSameSeat b a → IsInside (seen_of a) (seen_of b) → seen_of a ≢ seen_of b → Stepped b m a true
moved b a m s i ne = record { same = s; inside = i; still = λ f. absurd (true≢false f); moves = λ f. inr ne }

pub stepped_none : (s : Seat) (m : Bool) → Stepped s m s m
stepped_none s m = still s s m (same_itself s) refl

-- between boxes that are the same at both ends, nothing moved
pub middle : (a b c : Bounds) → IsInside b a → IsInside c b → c ≡ a → b ≡ a
middle a b c i j e = inside_both b a i (subst (λ (x : Bounds). IsInside x b) e j)

pub stepped_more : (a b c : Seat) (m n o : Bool) → Stepped a m b n → Stepped b n c o → Stepped a m c o
stepped_more a b c m n o s t = record {
  same = same_through a b c s.same t.same;
  inside = inside_through (seen_of c) (seen_of b) (seen_of a) t.inside s.inside;
  still = λ f. let p = t.still f in let q = s.still p.0 in (q.0, p.1 ∙ q.1);
  moves = λ f. elim (t.moves f) [
    | inl p ↦ elim (s.moves p) [ inl q ↦ inl q | inr q ↦ inr (λ e. q (middle (seen_of a) (seen_of b) (seen_of c) s.inside t.inside e)) ]
    | inr p ↦ inr (λ e. p (e ∙ sym (middle (seen_of a) (seen_of b) (seen_of c) s.inside t.inside e)))
  ];
}

-- a lower bound that was seen to be x
module _ (b a : Seat) (v : ℕ) (x : ℤ) (m : Bool) (same : IsSameSeat b a) (vh : v < length (seen_of b)) where
  pub low_moved : seen_of a ≡ put_of (seen_of b) v x (high_of (seen_of b) v) → low_of (seen_of b) v <ℤ x → Stepped b m a true
  low_moved e l = moved b a m same
      (subst (λ (z : Bounds). IsInside z (seen_of b)) (sym e) (put_inside (seen_of b) v x (high_of (seen_of b) v) vh (omega (arith, ints)) (omega (arith, ints))))
      (λ eq. let z : low_of (seen_of b) v ≡ x = ap (λ (w : Bounds). low_of w v) (sym eq ∙ e) ∙ low_put (seen_of b) v x (high_of (seen_of b) v) vh in omega (arith, ints))

  pub low_still : seen_of a ≡ put_of (seen_of b) v x (high_of (seen_of b) v) → low_of (seen_of b) v ≤ℤ x → x ≤ℤ low_of (seen_of b) v → Stepped b m a m
  low_still e l u = still b a m same (e ∙ put_same (seen_of b) v x (high_of (seen_of b) v) (omega (arith, ints)) refl)

  pub high_moved : seen_of a ≡ put_of (seen_of b) v (low_of (seen_of b) v) x → x <ℤ high_of (seen_of b) v → Stepped b m a true
  high_moved e l = moved b a m same
      (subst (λ (z : Bounds). IsInside z (seen_of b)) (sym e) (put_inside (seen_of b) v (low_of (seen_of b) v) x vh (omega (arith, ints)) (omega (arith, ints))))
      (λ eq. let z : high_of (seen_of b) v ≡ x = ap (λ (w : Bounds). high_of w v) (sym eq ∙ e) ∙ high_put (seen_of b) v (low_of (seen_of b) v) x vh in omega (arith, ints))

  pub high_still : seen_of a ≡ put_of (seen_of b) v (low_of (seen_of b) v) x → x ≤ℤ high_of (seen_of b) v → high_of (seen_of b) v ≤ℤ x → Stepped b m a m
  high_still e l u = still b a m same (e ∙ put_same (seen_of b) v (low_of (seen_of b) v) x refl (omega (arith, ints)))

keeps_side_low : (s : Side) (b : Bounds) (v : ℕ) (z : ℤ) → s ≡ Low → z ≤ℤ low_of b v → KeepsSide b s v z
keeps_side_low s b v z e h = subst (λ (x : Side). KeepsSide b x v z) (sym e) h

pub keeps_low : (b : Bounds) (t : Tell) → t.side ≡ Low → t.bound ≤ℤ low_of b t.var → Keeps b t
keeps_low b t e h = keeps_side_low t.side b t.var t.bound e h

keeps_side_high : (s : Side) (b : Bounds) (v : ℕ) (z : ℤ) → s ≡ High → high_of b v ≤ℤ z → KeepsSide b s v z
keeps_side_high s b v z e h = subst (λ (x : Side). KeepsSide b x v z) (sym e) h

pub keeps_high : (b : Bounds) (t : Tell) → t.side ≡ High → high_of b t.var ≤ℤ t.bound → Keeps b t
keeps_high b t e h = keeps_side_high t.side b t.var t.bound e h

keeps_side_inside : (s : Side) (b c : Bounds) (v : ℕ) (z : ℤ) → IsInside c b → v < length b → KeepsSide b s v z → KeepsSide c s v z
keeps_side_inside Low b c v z i h k = omega (arith, ints, i.lows v h, k)
keeps_side_inside High b c v z i h k = omega (arith, ints, i.highs v h, k)

-- a tell that leaves a box as it is, leaves each box inside it as it is
pub keeps_inside : (b c : Bounds) (t : Tell) → IsInside c b → t.var < length b → Keeps b t → Keeps c t
keeps_inside b c t i h k = keeps_side_inside t.side b c t.var t.bound i h k

-- where the mark began unset, it says by itself whether what was seen moved
pub unmoved : (b a : Seat) (m : Bool) → Stepped b false a m → OnFalse m (seen_of a ≡ seen_of b)
unmoved b a m s = OnFalse_from m (seen_of a ≡ seen_of b) (λ f. (s.still f).1)

pub newly_moved : (b a : Seat) (m : Bool) → Stepped b false a m → OnTrue m (seen_of a ≢ seen_of b)
newly_moved b a m s = OnTrue_from m (seen_of a ≢ seen_of b) (λ f. elim (s.moves f) [ inl e ↦ absurd (true≢false (sym e)) | inr ne ↦ ne ])
