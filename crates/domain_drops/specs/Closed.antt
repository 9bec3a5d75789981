-- Mixes that are closed under kernels, the greatest of them inside a start, and the weight that falls on the way to it.
use Rattle.std.specs.Prelude.{◌≡◌, ◌+◌, ◌-◌, ◌-ℤ◌, ℕ, List, [], ◌∷◌, length, unsigned_abs}
use Rattle.std.specs.List.{All}
use Rattle.interval.specs.Boxes.{IsProper}
use Rattle.guarded_tell.specs.declared.kernel.Kernel.{Kernel}
use Rattle.guarded_tell.specs.Kernels.{IsClosedUnder}
use Rattle.bit_domain.specs.Bits.{members}
use Rattle.bit_domain.specs.declared.dom.Dom.{Dom}
use Rattle.bit_domain.specs.declared.dom.Dom.TheVariants.{Bits, Pair}
use Rattle.bit_domain.specs.Mixes.{Mix, hull, IsMixInRange, IsInsideMix}
use Rattle.domain_drops.specs.Drops.{drops}

-- a mix is closed under a kernel where its hull is, proper in the kernel's variables and narrowed by no tell, and where no
-- drop names a number that the mix has
pub record IsClosedMixUnder (k : Kernel) (m : Mix) : Type 0 where
  pub bounds : IsClosedUnder k (hull m)
  pub whole : drops k m ≡ []

-- some number is left for each variable, and no tell and no drop of any kernel takes one away
pub record IsClosedMix (m : Mix) (kernels : List Kernel) : Type 0 where
  pub proper : IsProper (hull m)
  pub quiet : All (λ k. IsClosedMixUnder k m) kernels

-- g is the greatest closed mix inside the start
pub record IsGreatestMix (g start : Mix) (kernels : List Kernel) : Type 0 where
  pub closed : IsClosedMix g kernels
  pub inside : IsInsideMix g start
  pub greatest : (m : Mix) → IsClosedMix m kernels → IsInsideMix m start → IsInsideMix m g

-- no closed mix is inside the start
abbrev pub FailsMix : Mix → List Kernel → Type 0
FailsMix start kernels = (m : Mix) → IsClosedMix m kernels → IsInsideMix m start → ⊥

-- how many numbers a domain has beside one: of bits those that are set, of a pair its width
abbrev pub weight_of_dom : Dom → ℕ
weight_of_dom (Bits base set) = length (members set) - 1
weight_of_dom (Pair low high) = unsigned_abs (high -ℤ low)

-- the weight of a proper mix
unfoldable pub weight_of : Mix → ℕ
weight_of [] = 0
weight_of (d ∷ m) = weight_of_dom d + weight_of m

-- how mixes lie inside each other
pub record InsideMixOrder : Type 0 where
  pub itself : (m : Mix) → IsInsideMix m m
  pub through : (inner middle outer : Mix) → IsInsideMix inner middle → IsInsideMix middle outer → IsInsideMix inner outer
  pub equal : (m n : Mix) → IsInsideMix m n → IsInsideMix n m → m ≡ n
  pub in_range : (inner outer : Mix) → IsProper (hull inner) → IsMixInRange outer → IsInsideMix inner outer
      → IsMixInRange inner
  pub outer_is_proper : (inner outer : Mix) → IsProper (hull inner) → IsMixInRange outer → IsInsideMix inner outer
      → IsProper (hull outer)
