-- What is so of every value of `Masks`.
use Rattle.std.specs.Prelude.{◌≡◌, ℕ, ◌+◌, ◌*◌, ◌/◌, ◌<◌, length, All}
use Rattle.moved_set.specs.Building.{AreWithin}
use Rattle.moved_set.specs.Rows.{row_at}
use Rattle.moved_set.specs.declared.masks.Masks.TheInside.{Inside}

-- each variable has three groups, and each list that one names has one; the masks are of the kernels' words
pub record IsConsistent (m : Inside) : Type 0 where
  pub own_length : length m.own ≡ 3 * m.count
  pub lists_length : length m.lists_of.items ≡ m.count
  pub there : (v : ℕ) → v < m.count → All (λ l. l < length m.users) (row_at m.lists_of.items v)
  pub own_within : All (AreWithin (m.kernels / 32 + 1)) m.own
  pub users_within : All (AreWithin (m.kernels / 32 + 1)) m.users
