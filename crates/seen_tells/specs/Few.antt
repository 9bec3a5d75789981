-- The tells of a list, where they are few.
use Rattle.std.specs.Prelude.{◌≡◌, ◌<◌, List, [], ◌∷◌, length}
use Rattle.tells.specs.declared.tell.Tell.{Tell}
use Rattle.kernel_visits.specs.declared.resting.Rest.TheVariants.{Awake}
use Rattle.seen_tells.specs.declared.seen.Seen.{Seen}
use Rattle.seen_tells.specs.declared.seen.Seen.TheVariants.{Quiet, One, Two, Unseen}

-- these are all tells of the list, in order, and where there are none the kernel stays awake; unseen: there are more than two
abbrev pub AreFew : List Tell → Seen → Type 0
AreFew ts (Quiet r) = (ts ≡ []) × (r ≡ Awake)
AreFew ts (One t) = ts ≡ t ∷ []
AreFew ts (Two t u) = ts ≡ t ∷ u ∷ []
AreFew ts Unseen = 2 < length ts
