-- Where single tells are.
use Rattle.std.proofs.Common.{ℕ, ◌<◌, List, length, get_or, ℤ}
use Rattle.std.proofs.lemmas.List.{get_or_default}
use Rattle.std.specs.List.{Contains}
use Rattle.tells.specs.declared.tell.Tell.{Tell}
use Rattle.interval.specs.Limits.{IsBound, ClampOrder}
use Rattle.tells.specs.Words.{low_tell, high_tell, AreVariables}

-- a tell is on one of the variables, all of which are in the box, and its bound is one
pub record IsPlaced (count : ℕ) (vars : List ℕ) (t : Tell) : Type 0 where
  pub named : Contains vars t.var
  pub in_box : t.var < count
  pub bound : IsBound t.bound

-- the variable at a place
pub named_at : (vars : List ℕ) (i : ℕ) → i < length vars → Contains vars (get_or vars i 0)
named_at vars i h = (i, h, get_or_default vars i (get_or vars i 0) 0 h)

module _ (clamped : ClampOrder) (count : ℕ) (vars : List ℕ) (variables : AreVariables count vars) where
  pub low_placed : (i : ℕ) (z : ℤ) → i < length vars → IsPlaced count vars (low_tell (get_or vars i 0) z)
  low_placed i z h = record { named = named_at vars i h; in_box = variables.each i h; bound = clamped.in_range z }

  pub high_placed : (i : ℕ) (z : ℤ) → i < length vars → IsPlaced count vars (high_tell (get_or vars i 0) z)
  high_placed i z h = record { named = named_at vars i h; in_box = variables.each i h; bound = clamped.in_range z }
