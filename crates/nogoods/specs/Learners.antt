-- What a learner keeps.
use Rattle.std.specs.Prelude.{◌≡◌, ℕ, List, length}
use Rattle.std.specs.List.{All}
use Rattle.interval.specs.Boxes.{Bounds}
use Rattle.guarded_tell.specs.declared.kernel.Kernel.{Kernel}
use Rattle.guarded_tell.specs.Words.{Tell}
use Rattle.literals.specs.Literals.{IsPlaced}
use Rattle.nogoods.specs.declared.store.Nogood.{Nogood}
use Rattle.nogoods.specs.declared.learner.Learner.{Learner}
use Rattle.nogoods.specs.Nogoods.{HasNone, AllMeet}
use Rattle.nogoods.specs.Learnings.{IsKept}

-- it serves a search of the space: what it keeps are nogoods there
pub record Serves (kernels : List Kernel) (space : Bounds) (learner : Learner) : Type 0 where
  pub past_count : length learner.past ≡ length space
  pub nogoods : All (IsKept kernels space) learner.store.items

-- the literals of its nogoods are of a box of so many variables
abbrev pub AreFor : ℕ → Learner → Type 0
AreFor count learner = All (λ nogood. All (IsPlaced count) nogood.literals.items) learner.store.items

-- it serves whatever it served before
abbrev pub StillServes : Learner → Learner → Type 0
StillServes before after = (kernels : List Kernel) (space : Bounds) → Serves kernels space before → Serves kernels space after

-- whatever these are nogoods of, no solution is in the box
abbrev pub AreRuledOut : List Nogood → Bounds → Type 0
AreRuledOut store b =
    (kernels : List Kernel) (space : Bounds) → All (IsKept kernels space) store → length b ≡ length space → HasNone kernels space b

-- whatever these are nogoods of, each solution in the box meets the bound
abbrev pub AreTold : List Nogood → Bounds → Tell → Type 0
AreTold store b t =
    (kernels : List Kernel) (space : Bounds) → All (IsKept kernels space) store → length b ≡ length space → AllMeet kernels space b t

-- whatever it serves, no solution is in the box
abbrev pub RulesOut : Learner → Bounds → Type 0
RulesOut learner b = (kernels : List Kernel) (space : Bounds) → Serves kernels space learner → length b ≡ length space → HasNone kernels space b

-- whatever it serves, each solution in the box meets the bound
abbrev pub Tells : Learner → Bounds → Tell → Type 0
Tells learner b t = (kernels : List Kernel) (space : Bounds) → Serves kernels space learner → length b ≡ length space → AllMeet kernels space b t
