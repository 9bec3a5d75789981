-- What a seat has seen, as a box.
use Rattle.std.proofs.Common.{ℕ, ℤ, ◌≡◌, ◌≢◌, ◌+◌, ◌*◌, ◌<◌, ◌≤◌, ◌≤ℤ◌, ◌<ℤ◌, length, Bool, true, false, refl, sym, ap, ◌∙◌, subst, arith, length-set}
use Rattle.std.proofs.lemmas.List.{set-get_or}
use Rattle.std.specs.Prelude.{slice_index, slice_set, Option, Some, None, IfSome}
use Rattle.std.proofs.lemmas.Int.{ints}
use mir.Val.{to_z, of_z}
use mir.Syntax.{w64}
use Rattle.interval.specs.Limits.{IsBound, bound_limit, largest_number}
use Rattle.interval.specs.Boxes.{Bounds, low_of, high_of, put_of}
use mathlib.Core.Bool.{not}
use lib.Dec.{eqb}
use Rattle.std.specs.Prelude.{IsTrue, IsFalse}
use Rattle.lattice_store.specs.declared.seat.Seat.{Seat}
use Rattle.lattice_store.specs.Words.{middle, word_of, epoch_of, code_of, IsCode, IsOriginOf, ceiling, box_of, codes_of, low_code, high_code, low_value, high_value}
use Rattle.lattice_store.specs.Steps.{MayTell}
use Rattle.lattice_store.specs.Seats.{Moved, seen_of, floor_of}
use Rattle.lattice_store.proofs.WordLaws.{origin-epoch, epoch-word, code-word, code-rises, low-code, high-code, low-bound, high-bound, low-rises, low-climbs, high-falls, high-drops, low-under, high-under, low-within, high-within, low-told, high-told, same_word}
use Rattle.lattice_store.proofs.BoxLaws.{box-low, box-high, box-set_low, box-set_high, code-low, code-high}

pub cast_bound : (z : ℤ) → IsBound z → to_z w64 (of_z w64 z) ≡ z
unfolding bound_limit largest_number
cast_bound z h = omega (arith, ints)

-- the length of a floor is that of the box
pub floor_low : (floor : Option Bounds) (n v k c : ℕ) → IfSome floor (λ f. length f ≡ n) → v < n → k ≡ 2 * v + 1 → 1 ≤ c → c ≤ ceiling floor k → IfSome floor (λ f. low_value c ≤ℤ low_of f v)
unfolding ceiling
floor_low None n v k c s h e one le = tt
floor_low (Some f) n v k c s h e one le = low-under c (low_of f v) one (subst (λ (x : ℕ). c ≤ x) (ap (slice_index (codes_of f)) e ∙ code-low f v (omega arith)) le)

pub floor_high : (floor : Option Bounds) (n v k c : ℕ) → IfSome floor (λ f. length f ≡ n) → v < n → k ≡ 2 * v + 2 → 1 ≤ c → c ≤ ceiling floor k → IfSome floor (λ f. high_of f v ≤ℤ high_value c)
unfolding ceiling
floor_high None n v k c s h e one le = tt
floor_high (Some f) n v k c s h e one le = high-under c (high_of f v) one (subst (λ (x : ℕ). c ≤ x) (ap (slice_index (codes_of f)) e ∙ code-high f v (omega arith)) le)

-- a bound that doesn't cut the floor has a code that holds it
pub low_held : (floor : Option Bounds) (n v k : ℕ) (z : ℤ) → IfSome floor (λ f. length f ≡ n) → v < n → k ≡ 2 * v + 1 → IsBound z → IfSome floor (λ f. z ≤ℤ low_of f v) → low_code z ≤ ceiling floor k
unfolding ceiling
low_held None n v k z s h e b le = let a = (low-code z b).1 in omega arith
low_held (Some f) n v k z s h e b le = subst (λ (x : ℕ). low_code z ≤ x) (sym (ap (slice_index (codes_of f)) e ∙ code-low f v (omega arith))) (low-within z (low_of f v) le)

pub high_held : (floor : Option Bounds) (n v k : ℕ) (z : ℤ) → IfSome floor (λ f. length f ≡ n) → v < n → k ≡ 2 * v + 2 → IsBound z → IfSome floor (λ f. high_of f v ≤ℤ z) → high_code z ≤ ceiling floor k
unfolding ceiling
high_held None n v k z s h e b le = let a = (high-code z b).1 in omega arith
high_held (Some f) n v k z s h e b le = subst (λ (x : ℕ). high_code z ≤ x) (sym (ap (slice_index (codes_of f)) e ∙ code-high f v (omega arith))) (high-within z (high_of f v) le)

pub record Low (b a : Seat) (v k : ℕ) : Type 0 where
  pub inside : k < length a.seen.items
  pub code : IsCode (slice_index a.seen.items k)
  pub value : low_value (code_of (slice_index a.seen.items k)) ≡ low_of (seen_of a) v
  pub seen : seen_of a ≡ put_of (seen_of b) v (low_value (code_of (slice_index a.seen.items k))) (high_of (seen_of b) v)
  pub not_behind : low_of (seen_of b) v ≤ℤ low_value (code_of (slice_index a.seen.items k))
  pub floor : IfSome (floor_of a) (λ f. low_value (code_of (slice_index a.seen.items k)) ≤ℤ low_of f v)
  pub in_range : IsBound (low_value (code_of (slice_index a.seen.items k)))
  pub climbs : slice_index a.seen.items k ≢ slice_index b.seen.items k → low_of (seen_of b) v <ℤ low_value (code_of (slice_index a.seen.items k))
  pub rests : slice_index a.seen.items k ≡ slice_index b.seen.items k → seen_of a ≡ seen_of b

pub record High (b a : Seat) (v k : ℕ) : Type 0 where
  pub inside : k < length a.seen.items
  pub code : IsCode (slice_index a.seen.items k)
  pub value : high_value (code_of (slice_index a.seen.items k)) ≡ high_of (seen_of a) v
  pub seen : seen_of a ≡ put_of (seen_of b) v (low_of (seen_of b) v) (high_value (code_of (slice_index a.seen.items k)))
  pub not_behind : high_value (code_of (slice_index a.seen.items k)) ≤ℤ high_of (seen_of b) v
  pub floor : IfSome (floor_of a) (λ f. high_of f v ≤ℤ high_value (code_of (slice_index a.seen.items k)))
  pub in_range : IsBound (high_value (code_of (slice_index a.seen.items k)))
  pub drops : slice_index a.seen.items k ≢ slice_index b.seen.items k → high_value (code_of (slice_index a.seen.items k)) <ℤ high_of (seen_of b) v
  pub rests : slice_index a.seen.items k ≡ slice_index b.seen.items k → seen_of a ≡ seen_of b

length_of : (b a : Seat) (k : ℕ) → Moved b a k → length a.seen.items ≡ length b.seen.items
length_of b a k m = ap length m.seen ∙ length-set b.seen.items k (slice_index a.seen.items k)

-- a greater word of the same epoch has a greater code
code_climbs : (x y : ℕ) → epoch_of x ≡ epoch_of y → x ≤ y → y ≢ x → code_of x < code_of y
code_climbs x y e le ne = let a = code-rises x y le e in let b : code_of x ≢ code_of y = λ c. ne (sym (same_word x y e c)) in omega arith

same_seen : (b a : Seat) (k : ℕ) → Moved b a k → slice_index a.seen.items k ≡ slice_index b.seen.items k → a.seen.items ≡ b.seen.items
same_seen b a k m e = m.seen ∙ ap (λ (x : ℕ). slice_set b.seen.items k x) e ∙ set-get_or b.seen.items k 0

pub low_moved : (b a : Seat) (v k : ℕ) → k ≡ 2 * v + 1 → v < length (seen_of b) → Moved b a k → Low b a v k
low_moved b a v k e h m =
    let pairs = b.stands.pairs in
    let len = length_of b a k m in
    let x = slice_index b.seen.items k in
    let y = slice_index a.seen.items k in
    let own_a = a.stands.own k (omega arith) (omega arith) in
    let own_b = b.stands.own k (omega arith) (omega arith) in
    let was : low_of (seen_of b) v ≡ low_value (code_of x) = box-low b.seen.items v (omega arith) ∙ ap (λ (i : ℕ). low_value (code_of (slice_index b.seen.items i))) (sym e) in
    let now : low_of (seen_of a) v ≡ low_value (code_of y) = box-low a.seen.items v (omega arith) ∙ ap (λ (i : ℕ). low_value (code_of (slice_index a.seen.items i))) (sym e) in
    let same_epoch : epoch_of x ≡ epoch_of y = own_b.epoch_is ∙ sym (own_a.epoch_is ∙ m.same.epoch) in
    let seen : seen_of a ≡ put_of (seen_of b) v (low_value (code_of y)) (high_of (seen_of b) v) = ap box_of m.seen ∙ ap (λ (i : ℕ). box_of (slice_set b.seen.items i y)) e ∙ box-set_low b.seen.items v y (omega arith) in
    let same_box : length (seen_of a) ≡ length (seen_of b) = let z = a.stands.pairs in omega arith in record {
      inside = omega arith;
      code = own_a.code;
      value = sym now;
      seen = seen;
      not_behind = subst (λ (z : ℤ). z ≤ℤ low_value (code_of y)) (sym was) (low-rises (code_of x) (code_of y) (code-rises x y m.grows same_epoch));
      floor = floor_low (floor_of a) (length (seen_of a)) v k (code_of y) a.stands.sized (omega arith) e own_a.code.above_zero own_a.held;
      in_range = low-bound (code_of y) own_a.code.above_zero own_a.code.below_end;
      climbs = λ ne. subst (λ (z : ℤ). z <ℤ low_value (code_of y)) (sym was) (low-climbs (code_of x) (code_of y) (code_climbs x y same_epoch m.grows ne));
      rests = λ q. ap box_of (same_seen b a k m q);
    }

pub high_moved : (b a : Seat) (v k : ℕ) → k ≡ 2 * v + 2 → v < length (seen_of b) → Moved b a k → High b a v k
high_moved b a v k e h m =
    let pairs = b.stands.pairs in
    let len = length_of b a k m in
    let x = slice_index b.seen.items k in
    let y = slice_index a.seen.items k in
    let own_a = a.stands.own k (omega arith) (omega arith) in
    let own_b = b.stands.own k (omega arith) (omega arith) in
    let was : high_of (seen_of b) v ≡ high_value (code_of x) = box-high b.seen.items v (omega arith) ∙ ap (λ (i : ℕ). high_value (code_of (slice_index b.seen.items i))) (sym e) in
    let now : high_of (seen_of a) v ≡ high_value (code_of y) = box-high a.seen.items v (omega arith) ∙ ap (λ (i : ℕ). high_value (code_of (slice_index a.seen.items i))) (sym e) in
    let same_epoch : epoch_of x ≡ epoch_of y = own_b.epoch_is ∙ sym (own_a.epoch_is ∙ m.same.epoch) in
    let seen : seen_of a ≡ put_of (seen_of b) v (low_of (seen_of b) v) (high_value (code_of y)) = ap box_of m.seen ∙ ap (λ (i : ℕ). box_of (slice_set b.seen.items i y)) e ∙ box-set_high b.seen.items v y (omega arith) in
    let same_box : length (seen_of a) ≡ length (seen_of b) = let z = a.stands.pairs in omega arith in record {
      inside = omega arith;
      code = own_a.code;
      value = sym now;
      seen = seen;
      not_behind = subst (λ (z : ℤ). high_value (code_of y) ≤ℤ z) (sym was) (high-falls (code_of x) (code_of y) (code-rises x y m.grows same_epoch));
      floor = floor_high (floor_of a) (length (seen_of a)) v k (code_of y) a.stands.sized (omega arith) e own_a.code.above_zero own_a.held;
      in_range = high-bound (code_of y) own_a.code.above_zero own_a.code.below_end;
      drops = λ ne. subst (λ (z : ℤ). high_value (code_of y) <ℤ z) (sym was) (high-drops (code_of x) (code_of y) (code_climbs x y same_epoch m.grows ne));
      rests = λ q. ap box_of (same_seen b a k m q);
    }

pub may_tell_low : (s : Seat) (v k w : ℕ) (z : ℤ) → k ≡ 2 * v + 1 → v < length (seen_of s) → IsBound z → IfSome (floor_of s) (λ f. z ≤ℤ low_of f v) → w ≡ word_of s.epoch (low_code z) → MayTell s.place.me.0 k w
may_tell_low s v k w z e h b f is =
    let c = low-code z b in record {
      code = record { above_zero = subst (λ (x : ℕ). 1 ≤ code_of x) (sym is) (subst (λ (x : ℕ). 1 ≤ x) (sym (code-word s.epoch (low_code z) c.1)) c.0); below_end = subst (λ (x : ℕ). code_of x < 2 * middle) (sym is) (subst (λ (x : ℕ). x < 2 * middle) (sym (code-word s.epoch (low_code z) c.1)) c.1) };
      epoch = ap epoch_of is ∙ epoch-word s.epoch (low_code z) c.1 ∙ sym s.stands.epoch_is;
      held = subst (λ (x : ℕ). x ≤ ceiling (floor_of s) k) (sym (ap code_of is ∙ code-word s.epoch (low_code z) c.1)) (low_held (floor_of s) (length (seen_of s)) v k z s.stands.sized h e b f);
    }

pub may_tell_high : (s : Seat) (v k w : ℕ) (z : ℤ) → k ≡ 2 * v + 2 → v < length (seen_of s) → IsBound z → IfSome (floor_of s) (λ f. high_of f v ≤ℤ z) → w ≡ word_of s.epoch (high_code z) → MayTell s.place.me.0 k w
may_tell_high s v k w z e h b f is =
    let c = high-code z b in record {
      code = record { above_zero = subst (λ (x : ℕ). 1 ≤ code_of x) (sym is) (subst (λ (x : ℕ). 1 ≤ x) (sym (code-word s.epoch (high_code z) c.1)) c.0); below_end = subst (λ (x : ℕ). code_of x < 2 * middle) (sym is) (subst (λ (x : ℕ). x < 2 * middle) (sym (code-word s.epoch (high_code z) c.1)) c.1) };
      epoch = ap epoch_of is ∙ epoch-word s.epoch (high_code z) c.1 ∙ sym s.stands.epoch_is;
      held = subst (λ (x : ℕ). x ≤ ceiling (floor_of s) k) (sym (ap code_of is ∙ code-word s.epoch (high_code z) c.1)) (high_held (floor_of s) (length (seen_of s)) v k z s.stands.sized h e b f);
    }

-- the word that a tell writes
pub told_low : (e origin w : ℕ) (z : ℤ) → IsOriginOf e origin → IsBound z → w ≡ word_of (epoch_of origin) (low_code (to_z w64 (of_z w64 z))) → w ≡ word_of e (low_code z)
told_low e origin w z is b h = h ∙ (λ i. word_of (origin-epoch e origin is i) (low_code (cast_bound z b i)))

pub told_high : (e origin w : ℕ) (z : ℤ) → IsOriginOf e origin → IsBound z → w ≡ word_of (epoch_of origin) (high_code (to_z w64 (of_z w64 z))) → w ≡ word_of e (high_code z)
told_high e origin w z is b h = h ∙ (λ i. word_of (origin-epoch e origin is i) (high_code (cast_bound z b i)))

-- the code that was told is at most what the seat has then seen
pub low_heard : (s : Seat) (k w : ℕ) (z : ℤ) → 1 ≤ k → k < length s.seen.items → IsBound z → w ≡ word_of s.epoch (low_code z) → w ≤ slice_index s.seen.items k → z ≤ℤ low_value (code_of (slice_index s.seen.items k))
low_heard s k w z one h b is le =
    let c = low-code z b in
    let own = s.stands.own k one h in
    low-told (code_of (slice_index s.seen.items k)) z b (subst (λ (x : ℕ). x ≤ code_of (slice_index s.seen.items k)) (ap code_of is ∙ code-word s.epoch (low_code z) c.1) (code-rises w (slice_index s.seen.items k) le (ap epoch_of is ∙ epoch-word s.epoch (low_code z) c.1 ∙ sym own.epoch_is)))

pub high_heard : (s : Seat) (k w : ℕ) (z : ℤ) → 1 ≤ k → k < length s.seen.items → IsBound z → w ≡ word_of s.epoch (high_code z) → w ≤ slice_index s.seen.items k → high_value (code_of (slice_index s.seen.items k)) ≤ℤ z
high_heard s k w z one h b is le =
    let c = high-code z b in
    let own = s.stands.own k one h in
    high-told (code_of (slice_index s.seen.items k)) z b (subst (λ (x : ℕ). x ≤ code_of (slice_index s.seen.items k)) (ap code_of is ∙ code-word s.epoch (high_code z) c.1) (code-rises w (slice_index s.seen.items k) le (ap epoch_of is ∙ epoch-word s.epoch (high_code z) c.1 ∙ sym own.epoch_is)))

-- a bound that a call answered
pub answered : (r z : ℤ) → r ≡ z → IsBound z → to_z w64 (of_z w64 r) ≡ z
answered r z e b = cast_bound r (subst IsBound (sym e) b) ∙ e

pub differ : (x y : ℕ) → IsTrue (not (eqb x y)) → x ≢ y
differ x y t e = grind arith

pub alike : (x y : ℕ) → IsFalse (not (eqb x y)) → x ≡ y
alike x y t = grind arith

pub alike_back : (x y : ℕ) → x ≡ y → IsFalse (not (eqb x y))
alike_back x y e = grind arith

no_true : (b : Bool) → (b ≡ true → ⊥) → b ≡ false
no_true true h = absurd (h refl)
no_true false h = refl

pub not_past : (s : Seat) → (s.past ≡ true → ⊥) → s.past ≡ false
not_past s n = no_true s.past n
