-- The ends of a domain's numbers.
use Rattle.std.proofs.Common.{ℕ, ◌≡◌, ◌≢◌, ◌+◌, ◌-◌, ◌^◌, ◌<◌, ◌≤◌, Bool, true, false, ◌&&◌, List, [], ◌∷◌, length, map, ℤ, pos, ◌+ℤ◌, ◌-ℤ◌, ◌≤ℤ◌, refl, sym, ap, ◌∙◌, subst, arith, w64, to_z, of_z, bit_and}
use Rattle.std.specs.Prelude.{◌↔◌, unsigned_abs, if◌then◌else◌}
use Rattle.std.specs.Int.RustNames.{int_le}
use Rattle.std.specs.Int.{bit_at}
use lib.Count.{count_leading_zeros, count_trailing_zeros}
use Rattle.std.proofs.Math.Pow.{pow_mono}
use Rattle.std.proofs.lemmas.Int.{ints, by_lt_z}
use Rattle.std.proofs.lemmas.Bool.{and_parts, and_from}
use Rattle.std.proofs.lemmas.List.{get_or-map, length-map}
use Rattle.std.proofs.lemmas.Nat.{and_le_r}
use Rattle.std.proofs.lemmas.Nat.Bits.{bit_at-zero, bit_at_ones, bit_at_ones_above, bit_at_above, bit_at_and, bit_at-lt, same_from_bits}
use Rattle.std.specs.List.{Contains}
use mathlib.Core.Logic.{dite}
use native.Mathlib.Decide.{ℕ_discrete}
use Rattle.bit_domain.specs.Bits.{IsLeast, IsGreatest, IsSubset}
use Rattle.interval.specs.Limits.{IsBound, largest_number, bound_limit, box_limit}
use Rattle.interval.specs.Boxes.{Bounds, low_of, high_of, IsInRange}
use Rattle.bit_domain.specs.declared.dom.Dom.{Dom}
use Rattle.bit_domain.specs.declared.dom.Dom.TheVariants.{Bits, Pair}
use Rattle.bit_domain.specs.Mixes.{Has, IsBits, IsInsideDom, values_of, values_from, last_of, ends_of, dom_between, hull_of, mix_of, IsDomInRange, IsMixInRange}
use Rattle.bit_domain.proofs.BitLaws.{least_is, greatest_is}
use Rattle.bit_domain.proofs.MemberLaws.{by_bool, members_none, members_some, members_last, members_has, has_members}

ends_last : (z : ℤ) (zs : List ℤ) → 0 < length zs → (ends_of zs).1 ≡ last_of z zs
unfolding ends_of last_of
ends_last z [] some = absurd (omega arith)
ends_last z (y ∷ ys) some = refl

pub no_ends : (base : ℤ) (set : ℕ) → set ≡ 0 → ends_of (values_from base set) ≡ (pos 1, pos 0)
unfolding ends_of
no_ends base set e =
    ap (λ (n : ℕ). ends_of (values_from base n)) e ∙ ap (λ (xs : List ℕ). ends_of (map (λ i. base +ℤ pos i) xs)) members_none

pub least_end : (base : ℤ) (set i : ℕ) → IsLeast set i → (ends_of (values_from base set)).0 ≡ base +ℤ pos i
unfolding ends_of
least_end base set i least = ap (λ (xs : List ℕ). (ends_of (map (λ j. base +ℤ pos j) xs)).0) (members_some set i least)

some_values : (base : ℤ) (set i : ℕ) → IsLeast set i → 0 < length (values_from base set)
some_values base set i least =
    let e = ap (λ (xs : List ℕ). length (map (λ j. base +ℤ pos j) xs)) (members_some set i least) in
    subst (λ (n : ℕ). 0 < n) (sym e) (omega arith)

pub greatest_end : (base : ℤ) (set i : ℕ) → set ≢ 0 → set < 2 ^ 64 → IsGreatest set i → (ends_of (values_from base set)).1 ≡ base +ℤ pos i
greatest_end base set i some short greatest =
    ends_last (pos 0) (values_from base set) (some_values base set _ (least_is set some short))
    ∙ members_last (λ j. base +ℤ pos j) set i (pos 0) greatest

-- the set of the first n + 1 numbers
pub full_least : (n : ℕ) → IsLeast (2 ^ (n + 1) - 1) 0
full_least n = record { small = omega arith; inside = bit_at_ones (n + 1) 0 (omega arith); below = λ j less. absurd (omega arith) }

pub full_greatest : (n : ℕ) → n < 64 → IsGreatest (2 ^ (n + 1) - 1) n
full_greatest n small = record { small = small; inside = bit_at_ones (n + 1) n (omega arith); above = λ j more. bit_at_ones_above (n + 1) j (omega arith) }

-- ---- domains between two numbers

-- a number of a set is read in 64 bits as it is
pub coded_sum : (base : ℤ) (i : ℕ) → IsBound base → i < 64 → to_z w64 (of_z w64 (to_z w64 (of_z w64 base) +ℤ to_z w64 i)) ≡ base +ℤ pos i
unfolding bound_limit largest_number
coded_sum base i bound small = omega (arith, ints)

pub coded : (z : ℤ) → IsBound z → to_z w64 (of_z w64 z) ≡ z
unfolding bound_limit largest_number
coded z bound = omega (arith, ints)

full_numbers : (low high : ℤ) (n i : ℕ) → IsBound low → IsBound high → low +ℤ pos n ≡ high → bit_at (2 ^ (n + 1) - 1) i ≡ 1 → IsBound (low +ℤ pos i)
unfolding bound_limit largest_number
full_numbers low high n i from to e inside = by_lt_z (pos n) (pos i)
    (λ more. let none = bit_at_ones_above (n + 1) i (omega (arith, ints)) in absurd (omega arith))
    (λ le. omega (arith, ints))

full_short : (n : ℕ) → n < 64 → 2 ^ (n + 1) - 1 < 2 ^ 64
full_short n small = let p : 2 ^ (n + 1) ≤ 2 ^ 64 = pow_mono {i = n + 1} {j = 64} (omega arith) in omega arith

-- at most 64 numbers from low on are within the range where the low and the last of them are
full_in_range : (low high : ℤ) (n : ℕ) → IsBound low → IsBound high → low +ℤ pos n ≡ high → n < 64 → IsDomInRange (Bits low (2 ^ (n + 1) - 1))
full_in_range low high n from to e small = (from, full_short n small, λ i inside. full_numbers low high n i from to e inside)

abbrev is_short : ℤ → ℤ → Bool
is_short low high = int_le low high && int_le high (low +ℤ pos 63)

-- what the test of two numbers says
pub short_parts : (low high : ℤ) (t : Bool) → t ≡ is_short low high → t ≡ true → (low ≤ℤ high) × (high ≤ℤ (low +ℤ pos 63))
short_parts low high t e is =
    let parts = and_parts (int_le low high) (int_le high (low +ℤ pos 63)) (sym e ∙ is) in
    let p = parts.0 in
    let q = parts.1 in
    (omega (arith, ints), omega (arith, ints))

pub short_between : (low high : ℤ) (n : ℕ) → low +ℤ pos n ≡ high → n < 64 → dom_between low high ≡ Bits low (2 ^ (n + 1) - 1)
short_between low high n e small =
    let p : true ≡ int_le low high = omega (arith, ints) in
    let q : true ≡ int_le high (low +ℤ pos 63) = omega (arith, ints) in
    let width : unsigned_abs (high -ℤ low) ≡ n = omega (arith, ints) in
    let short : is_short low high ≡ true = and_from (int_le low high) (int_le high (low +ℤ pos 63)) (sym p) (sym q) in
    let whole : Dom = Bits low (2 ^ (unsigned_abs (high -ℤ low) + 1) - 1) in
    ap (λ (b : Bool). if b then whole else Pair low high) short ∙ ap (λ (k : ℕ). Bits low (2 ^ (k + 1) - 1)) width

pub between_in_range : (low high : ℤ) → IsBound low → IsBound high → IsDomInRange (dom_between low high)
between_in_range low high from to =
    let whole : Dom = Bits low (2 ^ (unsigned_abs (high -ℤ low) + 1) - 1) in
    by_bool (is_short low high)
    (λ (e : is_short low high ≡ true).
    let parts = and_parts (int_le low high) (int_le high (low +ℤ pos 63)) e in
    let p = parts.0 in
    let q = parts.1 in
    let width : low +ℤ pos (unsigned_abs (high -ℤ low)) ≡ high = omega (arith, ints) in
    let small : unsigned_abs (high -ℤ low) < 64 = omega (arith, ints) in
    subst (λ (b : Bool). IsDomInRange (if b then whole else Pair low high)) (sym e) (full_in_range low high (unsigned_abs (high -ℤ low)) from to width small))
    (λ (e : is_short low high ≡ false). subst (λ (b : Bool). IsDomInRange (if b then whole else Pair low high)) (sym e) (from, to))

pub mix_in_range : (b : Bounds) → IsInRange b → IsMixInRange (mix_of b)
mix_in_range b range = record {
  short = subst (λ (n : ℕ). n ≤ box_limit) (sym same) range.short;
  doms = λ v h. let inside : v < length b = subst (λ (n : ℕ). v < n) same h in
      subst IsDomInRange (sym (get_or-map (λ p. dom_between p.0 p.1) b v (pos 0, pos 0) (Pair (pos 0) (pos 0)) inside))
      (between_in_range (low_of b v) (high_of b v) (range.lows v inside) (range.highs v inside));
}
  where
    same : length (mix_of b) ≡ length b
    same = length-map b (λ p. dom_between p.0 p.1)

-- ---- what the domain between two numbers is

full_some : (n : ℕ) → 2 ^ (n + 1) - 1 ≢ 0
full_some n e =
    let one = bit_at_ones (n + 1) 0 (omega arith) in
    let none = ap (λ (k : ℕ). bit_at k 0) e ∙ bit_at-zero 0 in
    omega arith

full_hull : (low high : ℤ) (n : ℕ) → low +ℤ pos n ≡ high → n < 64 → ends_of (values_from low (2 ^ (n + 1) - 1)) ≡ (low, high)
full_hull low high n e small =
    let none : low +ℤ pos 0 ≡ low = omega (arith, ints) in
    let least = least_end low (2 ^ (n + 1) - 1) 0 (full_least n) ∙ none in
    let greatest = greatest_end low (2 ^ (n + 1) - 1) n (full_some n) (full_short n small) (full_greatest n small) ∙ e in
    (λ i. (least i, greatest i))

pub hull_between : (low high : ℤ) → hull_of (dom_between low high) ≡ (low, high)
hull_between low high =
    let whole : Dom = Bits low (2 ^ (unsigned_abs (high -ℤ low) + 1) - 1) in
    by_bool (is_short low high)
    (λ (e : is_short low high ≡ true).
    let parts = short_parts low high true (sym e) refl in
    let p = parts.0 in
    let q = parts.1 in
    let width : low +ℤ pos (unsigned_abs (high -ℤ low)) ≡ high = omega (arith, ints) in
    let small : unsigned_abs (high -ℤ low) < 64 = omega (arith, ints) in
    ap (λ (b : Bool). hull_of (if b then whole else Pair low high)) e ∙ full_hull low high (unsigned_abs (high -ℤ low)) width small)
    (λ (e : is_short low high ≡ false). ap (λ (b : Bool). hull_of (if b then whole else Pair low high)) e)

full_has : (low high z : ℤ) (n : ℕ) → low +ℤ pos n ≡ high → Has (Bits low (2 ^ (n + 1) - 1)) z → (low ≤ℤ z) × (z ≤ℤ high)
full_has low high z n e h =
    let i = h.0 in
    let inside = h.1 in
    let place = h.2 in
    by_lt_z (pos n) (pos i)
    (λ more. let none = bit_at_ones_above (n + 1) i (omega (arith, ints)) in absurd (omega arith))
    (λ le. (omega (arith, ints), omega (arith, ints)))

has_full : (low high z : ℤ) (n : ℕ) → low +ℤ pos n ≡ high → low ≤ℤ z → z ≤ℤ high → Has (Bits low (2 ^ (n + 1) - 1)) z
has_full low high z n e p q = (unsigned_abs (z -ℤ low), bit_at_ones (n + 1) (unsigned_abs (z -ℤ low)) (omega (arith, ints)), omega (arith, ints))

pub has_between : (low high z : ℤ) → Has (dom_between low high) z ↔ ((low ≤ℤ z) × (z ≤ℤ high))
has_between low high z =
    let whole : Dom = Bits low (2 ^ (unsigned_abs (high -ℤ low) + 1) - 1) in
    let P : Bool → Type 0 = λ b. Has (if b then whole else Pair low high) z ↔ ((low ≤ℤ z) × (z ≤ℤ high)) in
    by_bool (is_short low high)
    (λ (e : is_short low high ≡ true).
    let parts = short_parts low high true (sym e) refl in
    let p = parts.0 in
    let q = parts.1 in
    let width : low +ℤ pos (unsigned_abs (high -ℤ low)) ≡ high = omega (arith, ints) in
    subst P (sym e) (full_has low high z (unsigned_abs (high -ℤ low)) width, λ r. has_full low high z (unsigned_abs (high -ℤ low)) width r.0 r.1))
    (λ (e : is_short low high ≡ false). subst P (sym e) (λ h. h, λ h. h))

-- ---- the hull and the numbers of a domain

least_up_to : (set i l : ℕ) → IsLeast set l → bit_at set i ≡ 1 → l ≤ i
least_up_to set i l least inside = by_lt_z (pos i) (pos l)
    (λ less. let none = least.below i (omega (arith, ints)) in absurd (omega arith))
    (λ le. omega (arith, ints))

greatest_from : (set i g : ℕ) → IsGreatest set g → bit_at set i ≡ 1 → i ≤ g
greatest_from set i g greatest inside = by_lt_z (pos g) (pos i)
    (λ more. let none = greatest.above i (omega (arith, ints)) in absurd (omega arith))
    (λ le. omega (arith, ints))

some_in : (set i : ℕ) → bit_at set i ≡ 1 → set ≢ 0
some_in set i inside e =
    let none = ap (λ (k : ℕ). bit_at k i) e ∙ bit_at-zero i in
    omega arith

in_order : (y base z : ℤ) (i j : ℕ) → y ≡ base +ℤ pos i → z ≡ base +ℤ pos j → i ≤ j → y ≤ℤ z
in_order y base z i j e f le = omega (arith, ints)

not_crossed : (p : ℤ × ℤ) → p ≡ (pos 1, pos 0) → p.0 ≤ℤ p.1 → ⊥
not_crossed p e proper =
    let first = ap (λ (q : ℤ × ℤ). q.0) e in
    let last = ap (λ (q : ℤ × ℤ). q.1) e in
    omega (arith, ints)

within_ends : (base : ℤ) (set : ℕ) (z : ℤ) → set < 2 ^ 64 → Has (Bits base set) z → ((ends_of (values_from base set)).0 ≤ℤ z) × (z ≤ℤ (ends_of (values_from base set)).1)
within_ends base set z short h =
    let i = h.0 in
    let inside = h.1 in
    let place = h.2 in
    let some = some_in set i inside in
    let l = count_trailing_zeros 64 set in
    let g = 63 - count_leading_zeros 64 set in
    let first : (ends_of (values_from base set)).0 ≡ base +ℤ pos l = least_end base set l (least_is set some short) in
    let last : (ends_of (values_from base set)).1 ≡ base +ℤ pos g = greatest_end base set g some short (greatest_is set some short) in
    let low : l ≤ i = least_up_to set i l (least_is set some short) inside in
    let high : i ≤ g = greatest_from set i g (greatest_is set some short) inside in
    (in_order (ends_of (values_from base set)).0 base z l i first place low, in_order z base (ends_of (values_from base set)).1 i g place last high)

has_ends : (base : ℤ) (set : ℕ) → set < 2 ^ 64 → (ends_of (values_from base set)).0 ≤ℤ (ends_of (values_from base set)).1
    → Has (Bits base set) (ends_of (values_from base set)).0 × Has (Bits base set) (ends_of (values_from base set)).1
has_ends base set short proper =
    let some : set ≢ 0 = (λ e. not_crossed (ends_of (values_from base set)) (no_ends base set e) proper) in
    let least = least_is set some short in
    let greatest = greatest_is set some short in
    ((count_trailing_zeros 64 set, least.inside, least_end base set _ least), (63 - count_leading_zeros 64 set, greatest.inside, greatest_end base set _ some short greatest))

pub within_hull : (d : Dom) (z : ℤ) → IsDomInRange d → Has d z → ((hull_of d).0 ≤ℤ z) × (z ≤ℤ (hull_of d).1)
within_hull (Bits base set) z range h = within_ends base set z range.1 h
within_hull (Pair low high) z range h = h

pub has_hull : (d : Dom) → IsDomInRange d → (hull_of d).0 ≤ℤ (hull_of d).1 → Has d (hull_of d).0 × Has d (hull_of d).1
has_hull (Bits base set) range proper = has_ends base set range.1 proper
has_hull (Pair low high) range proper = ((omega (arith, ints), proper), (proper, omega (arith, ints)))

-- ---- the listed numbers, and domains inside each other

small_place : (set i : ℕ) → set < 2 ^ 64 → bit_at set i ≡ 1 → i < 64
small_place set i short inside = by_lt_z (pos i) (pos 64)
    (λ less. omega (arith, ints))
    (λ le. let none = bit_at_above set 64 i short (omega (arith, ints)) in absurd (omega arith))

pub values_has : (d : Dom) (z : ℤ) → IsDomInRange d → Contains (values_of d) z ↔ (IsBits d × Has d z)
values_has (Bits base set) z range = (
  (λ h. (tt, members_has (λ i. base +ℤ pos i) set z h)),
  (λ h.
      let i = h.1.0 in
      subst (Contains (values_from base set)) (sym h.1.2) (has_members (λ j. base +ℤ pos j) set i (small_place set i range.1 h.1.1) h.1.1)),
)
values_has (Pair low high) z range = ((λ h. absurd (let l = h.1 in omega arith)), (λ h. absurd h.0))

ends_in_range : IsBound (pos 1) × IsBound (pos 0)
unfolding bound_limit largest_number
ends_in_range = (omega arith, omega arith)

pub hull_in_range : (d : Dom) → IsDomInRange d → IsBound (hull_of d).0 × IsBound (hull_of d).1
hull_in_range (Bits base set) range = dite (ℕ_discrete set 0)
    (λ (e : set ≡ 0). subst (λ (p : ℤ × ℤ). IsBound p.0 × IsBound p.1) (sym (no_ends base set e)) ends_in_range)
    (λ (some : set ≢ 0).
    let least = least_is set some range.1 in
    let greatest = greatest_is set some range.1 in (
      subst IsBound (sym (least_end base set _ least)) (range.2 _ least.inside),
      subst IsBound (sym (greatest_end base set _ some range.1 greatest)) (range.2 _ greatest.inside),
    ))
hull_in_range (Pair low high) range = range

same_place : (base : ℤ) (i j : ℕ) → base +ℤ pos i ≡ base +ℤ pos j → i ≡ j
same_place base i j e = omega (arith, ints)

pub subset_from_numbers : (base : ℤ) (inner outer : ℕ) → ((z : ℤ) → Has (Bits base inner) z → Has (Bits base outer) z) → IsSubset inner outer
subset_from_numbers base inner outer h i =
    let small = bit_at-lt inner i in
    dite (ℕ_discrete (bit_at inner i) 1)
    (λ (e : bit_at inner i ≡ 1).
    let other = h (base +ℤ pos i) (i, e, refl) in
    let at : i ≡ other.0 = same_place base i other.0 other.2 in
    let one : bit_at outer i ≡ 1 = subst (λ (j : ℕ). bit_at outer j ≡ 1) (sym at) other.1 in
    omega arith)
    (λ (ne : bit_at inner i ≢ 1). omega arith)

subset_le : (inner outer : ℕ) → IsSubset inner outer → inner ≤ outer
subset_le inner outer subset =
    let same : inner ≡ bit_and inner outer = same_from_bits inner (bit_and inner outer) (λ i. let le = subset i in let both = bit_at_and inner outer i in omega arith) in
    let le = and_le_r inner outer in
    omega arith

one_above : (inner outer i : ℕ) → IsSubset inner outer → bit_at inner i ≡ 1 → bit_at outer i ≡ 1
one_above inner outer i subset inside = let le = subset i in let small = bit_at-lt outer i in omega arith

bound_between : (a b c d : ℤ) → IsBound c → IsBound d → c ≤ℤ a → a ≤ℤ b → b ≤ℤ d → IsBound a × IsBound b
unfolding bound_limit largest_number
bound_between a b c d f g p q r = (omega (arith, ints), omega (arith, ints))

pub inside_in_range : (inner outer : Dom) → IsDomInRange outer → IsInsideDom inner outer → (hull_of inner).0 ≤ℤ (hull_of inner).1 → IsDomInRange inner
inside_in_range (Bits b s) (Bits c t) range inside proper =
    let same : b ≡ c = inside.0 in
    let short : s < 2 ^ 64 = (let le = subset_le s t inside.1 in let far = range.1 in omega arith) in
    (subst IsBound (sym same) range.0, short, λ i one. subst (λ (z : ℤ). IsBound (z +ℤ pos i)) (sym same) (range.2 i (one_above s t i inside.1 one)))
inside_in_range (Bits b s) (Pair c d) range inside proper = absurd inside
inside_in_range (Pair a b) (Bits c t) range inside proper = absurd inside
inside_in_range (Pair a b) (Pair c d) range inside proper = bound_between a b c d range.0 range.1 inside.0 proper inside.1
