-- What propagation alone leaves of the domains of a model's variables, and what that says of the model's solutions.
use Rattle.std.specs.Prelude.{ℕ, ◌+◌, ◌<◌, ℤ, List, length}
use Rattle.bit_domain.specs.declared.dom.Dom.{Dom}
use Rattle.bit_domain.specs.Mixes.{Mix, Has, dom_of, mix_of}
use Rattle.domain_drops.specs.Closed.{FailsMix, IsGreatestMix}
use Rattle.constraint_model.specs.declared.model.FznModel.{FznModel}
use Rattle.constraint_model.specs.declared.model.Term.{Term}
use Rattle.constraint_model.specs.Relations.{value, IsSolution}
use Rattle.constraint_model.specs.WellFormed.{IsWellFormed}
use Rattle.decompose.specs.Kernels.{kernels_of}
use Rattle.decompose.specs.Program.{start_of}

-- the domains with which propagation begins: those of the declared bounds and of the constants
abbrev pub start_mix : FznModel → Mix
start_mix model = mix_of (start_of model)

-- the domains that propagation leaves: of the greatest closed mix inside those at the start
abbrev pub AreLeft : FznModel → Mix → Type 0
AreLeft model m = IsGreatestMix m (start_mix model) (kernels_of model)

-- it leaves none: no closed mix is inside those at the start
abbrev pub AreNoneLeft : FznModel → Type 0
AreNoneLeft model = FailsMix (start_mix model) (kernels_of model)

-- the domain of a declared variable; the constant 1 comes before all of them
abbrev pub declared_dom : Mix → ℕ → Dom
declared_dom m v = dom_of m (v + 1)

-- no solution lies outside the domains: what it gives to a declared variable is in the variable's domain
abbrev pub HoldSolutions : FznModel → Mix → Type 0
HoldSolutions model m = (a : List ℤ) (v : ℕ) → IsSolution model a → v < length model.vars → Has (declared_dom m v) (value a (Term.Var v))

-- the model has no solution
abbrev pub HasNoSolution : FznModel → Type 0
HasNoSolution model = (a : List ℤ) → ¬ IsSolution model a

-- ---- what is left of a model says of its solutions

-- no solution lies outside the domains that are left
abbrev pub LeftHoldSolutions : Type 0
LeftHoldSolutions = (model : FznModel) (m : Mix) → IsWellFormed model → AreLeft model m → HoldSolutions model m

-- where none are left there is no solution
abbrev pub NoneLeftNoSolution : Type 0
NoneLeftNoSolution = (model : FznModel) → IsWellFormed model → AreNoneLeft model → HasNoSolution model
