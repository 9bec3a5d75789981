-- The domain between two bounds is within the range.
use Rattle.std.proofs.Common.{ℕ, ◌≡◌, ◌+◌, ◌-◌, ◌^◌, ◌<◌, ◌≤◌, Bool, true, false, ◌&&◌, ℤ, pos, ◌+ℤ◌, ◌-ℤ◌, refl, sym, subst, arith}
use Rattle.std.specs.Prelude.{unsigned_abs, if◌then◌else◌}
use Rattle.std.specs.Int.RustNames.{int_le}
use Rattle.std.specs.Int.{bit_at}
use Rattle.std.proofs.Math.Pow.{pow_mono}
use Rattle.std.proofs.lemmas.Int.{ints, by_lt_z}
use Rattle.std.proofs.lemmas.Bool.{and_parts}
use Rattle.std.proofs.lemmas.Nat.Bits.{bit_at_ones_above}
use Rattle.interval.specs.Limits.{IsBound, bound_limit, largest_number}
use Rattle.bit_domain.specs.declared.dom.Dom.{Dom}
use Rattle.bit_domain.specs.declared.dom.Dom.TheVariants.{Bits, Pair}
use Rattle.bit_domain.specs.Mixes.{IsDomInRange, dom_between}

by_bool : {P : Type 0} (b : Bool) → (b ≡ true → P) → (b ≡ false → P) → P
by_bool true f g = f refl
by_bool false f g = g refl

full_numbers : (low high : ℤ) (n i : ℕ) → IsBound low → IsBound high → low +ℤ pos n ≡ high → bit_at (2 ^ (n + 1) - 1) i ≡ 1
    → IsBound (low +ℤ pos i)
unfolding bound_limit largest_number
full_numbers low high n i from to e inside = by_lt_z (pos n) (pos i)
    (λ more. let none = bit_at_ones_above (n + 1) i (omega (arith, ints)) in absurd (omega arith))
    (λ le. omega (arith, ints))

full_short : (n : ℕ) → n < 64 → 2 ^ (n + 1) - 1 < 2 ^ 64
full_short n small = let p : 2 ^ (n + 1) ≤ 2 ^ 64 = pow_mono {i = n + 1} {j = 64} (omega arith) in omega arith

full_in_range : (low high : ℤ) (n : ℕ) → IsBound low → IsBound high → low +ℤ pos n ≡ high → n < 64
    → IsDomInRange (Bits low (2 ^ (n + 1) - 1))
full_in_range low high n from to e small = (from, full_short n small, λ i inside. full_numbers low high n i from to e inside)

abbrev is_short : ℤ → ℤ → Bool
is_short low high = int_le low high && int_le high (low +ℤ pos 63)

pub between_in_range : (low high : ℤ) → IsBound low → IsBound high → IsDomInRange (dom_between low high)
between_in_range low high from to =
    let whole : Dom = Bits low (2 ^ (unsigned_abs (high -ℤ low) + 1) - 1) in
    by_bool (is_short low high)
    (λ (e : is_short low high ≡ true).
    let parts = and_parts (int_le low high) (int_le high (low +ℤ pos 63)) e in
    let p = parts.0 in
    let q = parts.1 in
    let width : low +ℤ pos (unsigned_abs (high -ℤ low)) ≡ high = omega (arith, ints) in
    let small : unsigned_abs (high -ℤ low) < 64 = omega (arith, ints) in
    let inside = full_in_range low high (unsigned_abs (high -ℤ low)) from to width small in
    subst (λ (b : Bool). IsDomInRange (if b then whole else Pair low high)) (sym e) inside)
    (λ (e : is_short low high ≡ false). subst (λ (b : Bool). IsDomInRange (if b then whole else Pair low high)) (sym e) (from, to))
