-- What holds of each element of a list that is put together.
use Rattle.std.proofs.Common.{◌≡◌, zero, suc, ◌+◌, List, [], ◌∷◌, ◌++◌, length, length-append, Bool, true, false, refl, subst, arith}
use Rattle.std.proofs.lemmas.List.{get_or_append_left, get_or-append-add}
use Rattle.std.proofs.lemmas.List.Elements.{All-nil, All-append}
use Rattle.std.specs.List.{All}
use Rattle.tells.specs.declared.tell.Tell.{Tell}
use Rattle.tells.specs.Words.{when}

module _ {X : Type 0} (P : X → Type 0) where
  pub All-left : (xs ys : List X) → All P (xs ++ ys) → All P xs
  All-left xs ys all k d h = subst P (get_or_append_left xs ys d k h) (all k d (omega (arith, length-append xs ys)))

  pub All-right : (xs ys : List X) → All P (xs ++ ys) → All P ys
  All-right xs ys all k d h = subst P (get_or-append-add xs ys k d) (all (length xs + k) d (omega (arith, length-append xs ys)))

  pub All-one : (x : X) → P x → All P (x ∷ [])
  All-one x p zero d h = p
  All-one x p (suc k) d h = absurd (omega arith)

  pub one-All : (x : X) → All P (x ∷ []) → P x
  one-All x all = all 0 x (omega arith)

  pub All-two : (x y : X) → P x → P y → All P (x ∷ y ∷ [])
  All-two x y p q = All-append P (x ∷ []) (y ∷ []) (All-one x p) (All-one y q)

  pub two-All : (x y : X) → All P (x ∷ y ∷ []) → P x × P y
  two-All x y all = (all 0 x (omega arith), all 1 y (omega arith))

module _ (P : Tell → Type 0) where
  pub All-when : (b : Bool) (ts : List Tell) → (b ≡ true → All P ts) → All P (when b ts)
  All-when true ts h = h refl
  All-when false ts h = All-nil P

  pub when-All : (b : Bool) (ts : List Tell) → b ≡ true → All P (when b ts) → All P ts
  when-All b ts e all = let Q : Bool → Type 0 = λ t. All P (when t ts) in subst Q e all
