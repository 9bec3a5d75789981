-- What the mixes of four variables and the kernels of the tests have to meet.
use Rattle.std.proofs.Common.{◌≡◌, ℕ, zero, suc, ◌+◌, ◌<◌, ◌≤◌, ◌^◌, List, [], ◌∷◌, ◌++◌, length, map, replicate, get_or, true, ltb, ℤ, pos, negsuc, ◌+ℤ◌, ◌≤ℤ◌, ◌<ℤ◌, refl, sym, ◌∙◌, ap, subst, arith, w32, w64, to_z, of_z}
use Rattle.std.specs.Prelude.{slice_index, slice_index_or}
use Rattle.std.specs.Int.{bit_at}
use Rattle.std.proofs.lemmas.Int.{ints, by_lt_z}
use Rattle.std.proofs.lemmas.Bool.{ltb-true}
use Rattle.std.proofs.lemmas.Nat.Bits.{bit_at_above}
use Rattle.std.proofs.lemmas.List.{length-map}
use Rattle.std.proofs.lemmas.List.Sums.{AllPass-from_list_all}
use Rattle.std.proofs.lemmas.List.Elements.{All-nil, All-cons}
use Rattle.std.specs.List.{All, AllPairs, list_all}
use Rattle.interval.specs.Limits.{IsBound, IsNumber, largest_number, bound_limit, box_limit}
use Rattle.interval.specs.Boxes.{Bounds, IsInRange, IsProper, low_of, high_of}
use Rattle.guarded_tell.specs.Words.{Lit, IsProperIn, AreVariables}
use Rattle.guarded_tell.specs.declared.kernel.Kernel.{Kernel}
use Rattle.guarded_tell.specs.declared.kernel.Kernel.TheVariants.{Eq, Abs, Element, InSet}
use Rattle.sum_tells.specs.Linear.{IsLinear, term_limit}
use Rattle.extreme_tells.specs.Extremes.{member_limit}
use Rattle.set_tells.specs.InSet.{IsSet, range_limit}
use Rattle.guarded_tell.specs.Kernels.{vars_of, HasNumbers, IsKernel}
use Rattle.bit_domain.specs.declared.dom.Dom.TheVariants.{Bits}
use Rattle.bit_domain.specs.Mixes.{Mix, hull, hull_of, mix_of, dom_between, IsDomInRange}
use Rattle.domain_drops.specs.Hearing.{Drop, MayHearDrops}

-- ---- mixes

abbrev pub AreBounds : ℤ × ℤ → Type 0
AreBounds p = IsBound p.0 × IsBound p.1

module _ (p q r s : ℤ × ℤ) (a : AreBounds p) (b : AreBounds q) (c : AreBounds r) (d : AreBounds s) where
  lows : (v : ℕ) → v < 4 → IsBound (low_of (p ∷ q ∷ r ∷ s ∷ []) v)
  lows zero h = a.0
  lows (suc zero) h = b.0
  lows (suc (suc zero)) h = c.0
  lows (suc (suc (suc zero))) h = d.0
  lows (suc (suc (suc (suc v)))) h = absurd (omega arith)

  highs : (v : ℕ) → v < 4 → IsBound (high_of (p ∷ q ∷ r ∷ s ∷ []) v)
  highs zero h = a.1
  highs (suc zero) h = b.1
  highs (suc (suc zero)) h = c.1
  highs (suc (suc (suc zero))) h = d.1
  highs (suc (suc (suc (suc v)))) h = absurd (omega arith)

  pub four_in_range : IsInRange (p ∷ q ∷ r ∷ s ∷ [])
  unfolding box_limit
  four_in_range = record { short = omega arith; lows = λ v h. lows v (omega arith); highs = λ v h. highs v (omega arith) }

pub length-mix : (b : Bounds) → length (mix_of b) ≡ length b
length-mix b = length-map b (λ p. dom_between p.0 p.1)

pub length-hull : (m : Mix) → length (hull m) ≡ length m
length-hull m = length-map m hull_of

-- any set over a base that is far from the ends of the range
far_number : (base : ℤ) (i : ℕ) → IsNumber base → (base +ℤ pos 64) ≤ℤ pos largest_number → i < 64 → IsBound (base +ℤ pos i)
unfolding bound_limit
far_number base i number far small = omega (arith, ints)

number_bound : (base : ℤ) → IsNumber base → IsBound base
unfolding bound_limit
number_bound base number = omega arith

pub set_in_range : (base : ℤ) (set : ℕ) → IsNumber base → (base +ℤ pos 64) ≤ℤ pos largest_number → set < 2 ^ 64 → IsDomInRange (Bits base set)
set_in_range base set number far short = (
  number_bound base number,
  short,
  λ i one. by_lt_z (pos i) (pos 64)
      (λ less. far_number base i number far (omega (arith, ints)))
      (λ le. let none = bit_at_above set 64 i short (omega (arith, ints)) in absurd (omega arith)),
)

-- the kernel can be run on a mix of four variables
pub kernel_on_four : (k : Kernel) (m : Mix) → IsKernel 4 k → length m ≡ 4 → IsKernel (length m) k
kernel_on_four k m kernel four = subst (λ n. IsKernel n k) (sym four) kernel

pub proper_in_four : (k : Kernel) (m : Mix) → IsKernel 4 k → length m ≡ 4 → IsProper (hull m) → IsProperIn (vars_of k) (hull m)
proper_in_four k m kernel four proper i h = proper (slice_index (vars_of k) i) (omega (arith, four, length-hull m, kernel.variables.each i h))

-- a hearer that may always hear may hear any list
pub may_hear_any : {H : Type 0} (hears : H → Drop → H → Type 0) (h : H) (ds : List Drop) → MayHearDrops (λ _ _. Unit {0}) hears h ds
may_hear_any hears h [] = tt
may_hear_any hears h (d ∷ ds) = (tt, λ mid heard. may_hear_any hears mid ds)

-- ---- kernels

below_four : (vars : List ℕ) → list_all (λ v. ltb v 4) vars ≡ true → AreVariables 4 vars
below_four vars e = record { each = λ i h. ltb-true (get_or vars i 0) 4 (AllPass-from_list_all (λ v. ltb v 4) vars e i 0 h) }

two_short : 2 ≤ term_limit
unfolding term_limit
two_short = omega arith

two_coefficients : (a c : ℤ) → IsNumber a → IsNumber c → (i : ℕ) → i < 2 → IsNumber (slice_index_or (a ∷ c ∷ []) i (pos 0))
two_coefficients a c h k zero l = h
two_coefficients a c h k (suc zero) l = k
two_coefficients a c h k (suc (suc i)) l = absurd (omega arith)

pub linear_made : (coeffs : List ℤ) (vars : List ℕ) (limit a c : ℤ) (x y : ℕ) → coeffs ≡ a ∷ c ∷ [] → vars ≡ x ∷ y ∷ [] → IsNumber a → IsNumber c → IsNumber limit → IsLinear coeffs vars limit
linear_made coeffs vars limit a c x y e f h k n =
    subst (λ (cs : List ℤ). IsLinear cs vars limit) (sym e)
    (subst (λ (vs : List ℕ). IsLinear (a ∷ c ∷ []) vs limit) (sym f)
    (record { same_length = refl; short = two_short; coefficients = λ i less. two_coefficients a c h k i (omega arith); limit_in_range = n }))

few_members : (n : ℕ) → n ≤ 70 → n ≤ member_limit
unfolding member_limit
few_members n h = omega arith

pub element_made : (xs : List ℕ) → xs ≡ 2 ∷ 3 ∷ 2 ∷ [] → IsKernel 4 (Element 1 xs 0)
unfolding vars_of HasNumbers
element_made xs e = subst (λ (ys : List ℕ). IsKernel 4 (Element 1 ys 0)) (sym e) (record { variables = below_four (1 ∷ 0 ∷ 2 ∷ 3 ∷ 2 ∷ []) refl; numbers = few_members 3 (omega arith) })

pub long_element_made : (xs : List ℕ) → xs ≡ replicate 69 2 ++ 3 ∷ [] → IsKernel 4 (Element 1 xs 0)
unfolding vars_of HasNumbers
long_element_made xs e = subst (λ (ys : List ℕ). IsKernel 4 (Element 1 ys 0)) (sym e) (record { variables = below_four (1 ∷ 0 ∷ (replicate 69 2 ++ 3 ∷ [])) refl; numbers = few_members 70 (omega arith) })

pub absolute_made : IsKernel 4 (Abs 1 2)
unfolding vars_of HasNumbers
absolute_made = record { variables = below_four (1 ∷ 2 ∷ []) refl; numbers = tt }

abbrev pub three_ranges : List (ℤ × ℤ)
three_ranges = (negsuc 8, negsuc 4) ∷ (negsuc 1, negsuc 0) ∷ (pos 3, pos 7) ∷ []

three_all : (P : ℤ × ℤ → Type 0) → P (negsuc 8, negsuc 4) → P (negsuc 1, negsuc 0) → P (pos 3, pos 7) → All P three_ranges
three_all P a b c = All-cons P (negsuc 8, negsuc 4) ((negsuc 1, negsuc 0) ∷ (pos 3, pos 7) ∷ []) a (All-cons P (negsuc 1, negsuc 0) ((pos 3, pos 7) ∷ []) b (All-cons P (pos 3, pos 7) [] c (All-nil P)))

three_apart : AllPairs (λ r s. (r.1 +ℤ pos 1) <ℤ s.0) three_ranges
three_apart zero zero d k l = absurd (omega arith)
three_apart zero (suc zero) d k l = omega (arith, ints)
three_apart zero (suc (suc zero)) d k l = omega (arith, ints)
three_apart (suc zero) zero d k l = absurd (omega arith)
three_apart (suc zero) (suc zero) d k l = absurd (omega arith)
three_apart (suc zero) (suc (suc zero)) d k l = omega (arith, ints)
three_apart (suc (suc i)) zero d k l = absurd (omega arith)
three_apart (suc (suc i)) (suc zero) d k l = absurd (omega arith)
three_apart (suc (suc i)) (suc (suc zero)) d k l = absurd (omega arith)
three_apart i (suc (suc (suc j))) d k l = absurd (omega arith)

three_set : IsSet three_ranges
unfolding range_limit largest_number
three_set = record {
  short = omega arith;
  firsts = three_all (λ r. IsNumber r.0) (omega arith) (omega arith) (omega arith);
  lasts = three_all (λ r. IsNumber r.1) (omega arith) (omega arith) (omega arith);
  ordered = three_all (λ r. r.0 ≤ℤ r.1) (omega (arith, ints)) (omega (arith, ints)) (omega (arith, ints));
  apart = three_apart;
}

pub membership_made : (l : Lit) (ranges : List (ℤ × ℤ)) → l.var ≡ 0 → ranges ≡ three_ranges → IsKernel 4 (InSet l 1 ranges)
unfolding vars_of HasNumbers
membership_made l ranges z e = subst (λ (rs : List (ℤ × ℤ)). IsKernel 4 (InSet l 1 rs)) (sym e) (record {
  variables = subst (λ (w : ℕ). AreVariables 4 (w ∷ 1 ∷ [])) (sym z) (below_four (0 ∷ 1 ∷ []) refl);
  numbers = three_set;
})

-- a base of 32 bits is far from the ends of the range
base_number : (base : ℤ) → IsNumber (to_z w64 (of_z w64 (to_z w32 (of_z w32 base))))
unfolding largest_number
base_number base = omega (arith, ints)

base_far : (base : ℤ) → (to_z w64 (of_z w64 (to_z w32 (of_z w32 base))) +ℤ pos 64) ≤ℤ pos largest_number
unfolding largest_number
base_far base = omega (arith, ints)

pub coded_set : (base : ℤ) (set : ℕ) → set < 2 ^ 64 → IsDomInRange (Bits (to_z w64 (of_z w64 (to_z w32 (of_z w32 base)))) set)
coded_set base set short = set_in_range (to_z w64 (of_z w64 (to_z w32 (of_z w32 base)))) set (base_number base) (base_far base) short
