-- What the laws say of a propagator: of the tells that it gives on boxes, of its relation, and of the variables that it
-- names.
use Rattle.std.specs.Prelude.{◌≡◌, ◌<◌, ◌↔◌, ℕ, ℤ, List, length}
use Rattle.std.specs.List.{All, Contains}
use Rattle.tells.specs.declared.tell.Tell.{Tell}
use Rattle.interval.specs.Limits.{IsBound, IsNumber}
use Rattle.interval.specs.Boxes.{Bounds, low_of, IsInRange, IsPoint}
use Rattle.tells.specs.Words.{Keeps, IsProperIn, IsInsideIn, AgreeIn, SameValuesIn, AreVariables, point_of}

-- no tell on a box narrows a box that is closed under them and, in the variables, inside that box
abbrev pub IsMonotone : List ℕ → (Bounds → List Tell) → Type 0
IsMonotone vars tells =
    (outer inner : Bounds) → AreVariables (length outer) vars → IsInRange outer → IsProperIn vars inner → IsInsideIn vars inner outer
    → All (Keeps inner) (tells inner) → All (Keeps inner) (tells outer)

-- a point whose bounds are numbers is closed exactly where the relation holds
abbrev pub IsExact : List ℕ → (Bounds → List Tell) → (List ℤ → Type 0) → Type 0
IsExact vars tells Holds =
    (b : Bounds) → AreVariables (length b) vars → IsPoint b → ((v : ℕ) → v < length b → IsNumber (low_of b v))
    → All (Keeps b) (tells b) ↔ Holds (point_of b)

-- each tell is on one of the variables, and its bound is one
abbrev pub TellsOnly : List ℕ → (Bounds → List Tell) → Type 0
TellsOnly vars tells =
    (b : Bounds) → AreVariables (length b) vars → All (λ t. Contains vars t.var × (t.var < length b) × IsBound t.bound) (tells b)

-- the tells depend on the variables alone
abbrev pub ReadsOnly : List ℕ → (Bounds → List Tell) → Type 0
ReadsOnly vars tells = (b c : Bounds) → AgreeIn vars b c → tells b ≡ tells c

-- so does the relation
abbrev pub IsRelationOf : List ℕ → (List ℤ → Type 0) → Type 0
IsRelationOf vars Holds = (f g : List ℤ) → SameValuesIn vars f g → Holds f → Holds g
