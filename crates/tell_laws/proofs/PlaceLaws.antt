-- Where single tells are, and what depends on the bounds of some variables alone.
use Rattle.std.proofs.Common.{◌≡◌, ℕ, ◌<◌, List, [], ◌∷◌, length, get_or, Bool, true, false, not, ◌&&◌, ℤ, pos}
use Rattle.std.proofs.lemmas.List.{get_or_default}
use Rattle.std.proofs.lemmas.List.Elements.{All-append}
use Rattle.std.specs.Int.RustNames.{int_lt}
use Rattle.std.specs.List.{All, Contains}
use Rattle.tells.specs.declared.tell.Lit.{Lit}
use Rattle.tells.specs.declared.tell.Tell.{Tell}
use Rattle.interval.specs.Limits.{IsBound, ClampOrder}
use Rattle.interval.specs.Quotients.{floor_of, ceiling_of}
use Rattle.interval.specs.Boxes.{Bounds, low_of, high_of}
use Rattle.tells.specs.Words.{low_tell, high_tell, when, literal_true, is_sure, is_out, sign_tell, AreVariables}
use Rattle.tells.specs.Words.{product_at_most, product_at_least}
use Rattle.tell_laws.proofs.Lists.{All-one, All-when}

-- a tell is on one of the variables, all of which are in the box, and its bound is one
pub record IsPlaced (count : ℕ) (vars : List ℕ) (t : Tell) : Type 0 where
  pub named : Contains vars t.var
  pub in_box : t.var < count
  pub bound : IsBound t.bound

-- the variable at a place
pub named_at : (vars : List ℕ) (i : ℕ) → i < length vars → Contains vars (get_or vars i 0)
named_at vars i h = (i, h, get_or_default vars i (get_or vars i 0) 0 h)

module _ (clamped : ClampOrder) (count : ℕ) (vars : List ℕ) (variables : AreVariables count vars) where
  pub low_placed : (i : ℕ) (z : ℤ) → i < length vars → IsPlaced count vars (low_tell (get_or vars i 0) z)
  low_placed i z h = record { named = named_at vars i h; in_box = variables.each i h; bound = clamped.in_range z }

  pub high_placed : (i : ℕ) (z : ℤ) → i < length vars → IsPlaced count vars (high_tell (get_or vars i 0) z)
  high_placed i z h = record { named = named_at vars i h; in_box = variables.each i h; bound = clamped.in_range z }

  pub sign_placed : (s : Bool) (i : ℕ) → i < length vars → IsPlaced count vars (sign_tell s (get_or vars i 0))
  sign_placed true i h = low_placed i (pos 1) h
  sign_placed false i h = high_placed i (pos 0) h

  pub at_most_placed : (i : ℕ) (a r : ℤ) → i < length vars → All (IsPlaced count vars) (product_at_most (get_or vars i 0) a r)
  at_most_placed i a r h =
      All-append (IsPlaced count vars) (when (int_lt (pos 0) a) (high_tell (get_or vars i 0) (floor_of r a) ∷ [])) (when (int_lt a (pos 0)) (low_tell (get_or vars i 0) (ceiling_of r a) ∷ []))
      (All-when (IsPlaced count vars) (int_lt (pos 0) a) _ (λ e. All-one (IsPlaced count vars) (high_tell (get_or vars i 0) (floor_of r a)) (high_placed i (floor_of r a) h)))
      (All-when (IsPlaced count vars) (int_lt a (pos 0)) _ (λ e. All-one (IsPlaced count vars) (low_tell (get_or vars i 0) (ceiling_of r a)) (low_placed i (ceiling_of r a) h)))

  pub at_least_placed : (i : ℕ) (a r : ℤ) → i < length vars → All (IsPlaced count vars) (product_at_least (get_or vars i 0) a r)
  at_least_placed i a r h =
      All-append (IsPlaced count vars) (when (int_lt (pos 0) a) (low_tell (get_or vars i 0) (ceiling_of r a) ∷ [])) (when (int_lt a (pos 0)) (high_tell (get_or vars i 0) (floor_of r a) ∷ []))
      (All-when (IsPlaced count vars) (int_lt (pos 0) a) _ (λ e. All-one (IsPlaced count vars) (low_tell (get_or vars i 0) (ceiling_of r a)) (low_placed i (ceiling_of r a) h)))
      (All-when (IsPlaced count vars) (int_lt a (pos 0)) _ (λ e. All-one (IsPlaced count vars) (high_tell (get_or vars i 0) (floor_of r a)) (high_placed i (floor_of r a) h)))

-- ---- the tells depend on the variables' bounds alone

pub same_sure : (l : Lit) (b c : Bounds) → low_of b l.var ≡ low_of c l.var → high_of b l.var ≡ high_of c l.var → is_sure l b ≡ is_sure l c
unfolding is_sure
same_sure l b c p q = (λ i. literal_true l (p i) && literal_true l (q i))

pub same_out : (l : Lit) (b c : Bounds) → low_of b l.var ≡ low_of c l.var → high_of b l.var ≡ high_of c l.var → is_out l b ≡ is_out l c
unfolding is_out
same_out l b c p q = (λ i. not (literal_true l (p i)) && not (literal_true l (q i)))
