-- The drops of a kernel on a mix: of each removal on the hull the numbers that pass its test, among those that the
-- variable still has. A variable that is kept as a pair of bounds has none listed.
use Rattle.std.specs.Prelude.{◌≡◌, ◌<◌, ℕ, ℤ, List, length, map, slice_index}
use Rattle.std.specs.List.{filter, flat_map}
use Rattle.guarded_tell.specs.declared.kernel.Kernel.{Kernel}
use Rattle.sum_tells.specs.Linear.{Term}
use Rattle.bit_domain.specs.Mixes.{Mix, dom_of, hull, values_of, IsInsideDom}
use Rattle.domain_drops.specs.Hearing.{Drop}
use Rattle.domain_drops.specs.Removals.{Removal, removals, makes_limit}

-- the numbers that one removal takes from its variable, rising
abbrev pub dropped : Mix → Removal → List Drop
dropped m r = map (λ z. (r.var, z)) (filter r.test (values_of (dom_of m r.var)))

unfoldable pub drops : Kernel → Mix → List Drop
drops k m = flat_map (dropped m) (removals k (hull m))

-- the drops of one term of an equation whose literal is out
abbrev pub term_drops : Mix → ℤ → ℤ → ℤ → Term → List Drop
term_drops m limit least greatest t =
    map (λ z. (t.1, z)) (filter (makes_limit (hull m) limit least greatest t) (values_of (dom_of m t.1)))

-- each domain of these variables in the inner mix is inside that of the outer
pub record IsInsideMixIn (vars : List ℕ) (inner outer : Mix) : Type 0 where
  pub doms : (i : ℕ) → i < length vars
      → IsInsideDom (dom_of inner (slice_index vars i)) (dom_of outer (slice_index vars i))

-- two mixes have the same domains of these variables
pub record AgreeMixIn (vars : List ℕ) (m n : Mix) : Type 0 where
  pub doms : (i : ℕ) → i < length vars → dom_of m (slice_index vars i) ≡ dom_of n (slice_index vars i)
