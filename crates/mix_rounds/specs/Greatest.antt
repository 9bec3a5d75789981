-- The greatest closed mix inside a start, computed: one number after another that a tell or a drop takes is taken, until none
-- is, or some variable has no number left. Each step makes the weight fall, so as many steps as that are enough.
use Rattle.std.specs.Prelude.{ℕ, zero, suc, ℤ, ◌+◌, ◌-◌, ◌-ℤ◌, ◌^◌, cond, List, [], ◌∷◌, ◌++◌, map, slice_set, bit_and, unsigned_abs, Option, None, Some}
use Rattle.std.specs.List.{flat_map}
use Rattle.guarded_tell.specs.declared.kernel.Kernel.{Kernel}
use Rattle.guarded_tell.specs.Words.{Tell, Side, Low, High}
use Rattle.guarded_tell.specs.Kernels.{tells}
use Rattle.tell_laws.specs.Narrowing.{narrowing}
use Rattle.fixpoint_laws.specs.Greatest.{is_crossed_box}
use Rattle.bit_domain.specs.declared.dom.Dom.{Dom}
use Rattle.bit_domain.specs.declared.dom.Dom.TheVariants.{Bits, Pair}
use Rattle.bit_domain.specs.Mixes.{Mix, dom_of, hull, hull_of}
use Rattle.domain_drops.specs.Hearing.{Drop}
use Rattle.domain_drops.specs.Drops.{drops}
use Rattle.domain_drops.specs.Closed.{weight_of}

-- a domain that is kept as bits without the number z
abbrev pub without : Dom → ℤ → Dom
without (Bits base set) z = Bits base (bit_and set (2 ^ 64 - 1 - 2 ^ unsigned_abs (z -ℤ base)))
without (Pair low high) z = Pair low high

-- a domain with the tighter bound of a tell, or as bits without the number that is next to go
abbrev pub told_dom : Dom → Side → ℤ → Dom
told_dom (Bits base set) Low bound = without (Bits base set) (hull_of (Bits base set)).0
told_dom (Bits base set) High bound = without (Bits base set) (hull_of (Bits base set)).1
told_dom (Pair low high) Low bound = Pair bound high
told_dom (Pair low high) High bound = Pair low bound

-- a variable and its domain after a tell, and after a drop
abbrev pub tell_step : Mix → Tell → ℕ × Dom
tell_step m t = (t.var, told_dom (dom_of m t.var) t.side t.bound)

abbrev pub drop_step : Mix → Drop → ℕ × Dom
drop_step m d = (d.0, without (dom_of m d.0) d.1)

-- the steps of a kernel: of the tells that narrow the hull, and then of the drops
unfoldable pub steps_of : Mix → Kernel → List (ℕ × Dom)
steps_of m k = map (tell_step m) (narrowing (hull m) (tells k (hull m))) ++ map (drop_step m) (drops k m)

-- what the first step leads to, or the mix itself where there is none
abbrev pub after_first : List (ℕ × Dom) → Mix → (Mix → Option Mix) → Option Mix
after_first [] m next = Some m
after_first (s ∷ ss) m next = next (slice_set m s.0 s.1)

-- the mix after fewer steps than that many, or none where some variable has no number left then
unfoldable pub narrowed_in : ℕ → List Kernel → Mix → Option Mix
narrowed_in zero kernels m = None
narrowed_in (suc steps) kernels m =
    cond (is_crossed_box (hull m)) None (after_first (flat_map (steps_of m) kernels) m (narrowed_in steps kernels))

-- the greatest closed mix inside a start, or none where the start fails
abbrev pub greatest_mix_of : Mix → List Kernel → Option Mix
greatest_mix_of start kernels = narrowed_in (weight_of start + 1) kernels start
