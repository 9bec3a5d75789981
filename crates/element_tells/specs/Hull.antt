-- What the search of an element's places finds: how far those that are left reach.
use Rattle.std.specs.Prelude.{◌≡◌, ◌<◌, ℕ, pos, List, [], ◌∷◌, ◌++◌, length, Option, None, Some}
use Rattle.tells.specs.declared.tell.Tell.{Tell}
use Rattle.element_tells.specs.declared.element.Hull.{Hull}
use Rattle.interval.specs.Limits.{bound_limit}
use Rattle.interval.specs.Boxes.{Bounds, low_of, high_of}
use Rattle.tells.specs.Words.{low_tell}
use Rattle.extreme_tells.specs.Extremes.{least_over, greatest_over}
use Rattle.element_tells.specs.Element.{between_tells}

-- the hull of some places
pub record IsHull (b : Bounds) (ps : List (ℕ × ℕ)) (u : Hull) : Type 0 where
  pub some : 0 < length ps
  pub first : u.first ≡ least_over (λ q. pos q.0) ps
  pub last : u.last ≡ greatest_over (λ q. pos q.0) ps
  pub low : u.low ≡ least_over (λ q. low_of b q.1) ps
  pub high : u.high ≡ greatest_over (λ q. high_of b q.1) ps

-- the hull of places, if there are any
abbrev pub IsHullOf : Bounds → List (ℕ × ℕ) → Option Hull → Type 0
IsHullOf b ps None = ps ≡ []
IsHullOf b ps (Some u) = IsHull b ps u

-- the tells of a hull
abbrev pub told_hull : ℕ → ℕ → Option Hull → List Tell
told_hull x c None = low_tell x (pos bound_limit) ∷ []
told_hull x c (Some u) = between_tells x u.first u.last ++ between_tells c u.low u.high
